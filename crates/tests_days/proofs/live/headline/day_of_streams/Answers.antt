use Rattle.spread_host.proofs.AnswersSent.{answer_sent}
use Rattle.tests_days.proofs.live.headline.day_of_streams.Goals as goal

pub returns-clause-outgoing : goal.returns-clause-outgoing
returns-clause-outgoing g c = (answer_sent c.args.rulebook.now c.args.stamp c.run_day.result c.run_day.ensures.outgoing
    c.run_day.ensures.day).outgoing

pub returns-clause-whole_frames : goal.returns-clause-whole_frames
returns-clause-whole_frames g c = (answer_sent c.args.rulebook.now c.args.stamp c.run_day.result
    c.run_day.ensures.outgoing c.run_day.ensures.day).whole_frames

pub returns-clause-lists : goal.returns-clause-lists
returns-clause-lists g c = (answer_sent c.args.rulebook.now c.args.stamp c.run_day.result c.run_day.ensures.outgoing
    c.run_day.ensures.day).lists

pub returns-clause-rows : goal.returns-clause-rows
returns-clause-rows g c = (answer_sent c.args.rulebook.now c.args.stamp c.run_day.result c.run_day.ensures.outgoing
    c.run_day.ensures.day).rows
