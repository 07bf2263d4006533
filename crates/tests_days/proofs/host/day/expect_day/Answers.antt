use Rattle.std.proofs.Common.{arith}
use Rattle.std.proofs.lemmas.Result.{IfOk-at_ok}
use Rattle.spread_host.proofs.AnswersSent.{answer_sent}
use Rattle.tests_days.proofs.host.day.expect_day.Goals as goal

pub expect_written-requires-clause-lists : goal.expect_written-requires-clause-lists
expect_written-requires-clause-lists g c =
    let each = answer_sent c.args.rules.now c.stamp.result c.day_of.result c.day_of.ensures.outgoing
    c.day_of.ensures.day in
    let count = IfOk-at_ok _ c.expect-day.ensures each.lists in
    omega (arith, count)

pub expect_written-requires-clause-rows : goal.expect_written-requires-clause-rows
expect_written-requires-clause-rows g c =
    let each = answer_sent c.args.rules.now c.stamp.result c.day_of.result c.day_of.ensures.outgoing
    c.day_of.ensures.day in
    IfOk-at_ok _ c.expect-day.ensures each.rows
