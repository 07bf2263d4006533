use Rattle.intake_lines.proofs.StreamRead as behind
use Rattle.intake_lines.proofs.laws.day_lines.Goals as goal

pub returns-clause-starts : goal.returns-clause-starts
returns-clause-starts c = behind.starts

pub returns-clause-says : goal.returns-clause-says
returns-clause-says c = behind.says c.judged.ensures.frames c.said_after.ensures.events

pub returns-clause-goes_on : goal.returns-clause-goes_on
returns-clause-goes_on c = behind.goes_on c.said_after.ensures.after

pub returns-clause-ends : goal.returns-clause-ends
returns-clause-ends c = behind.ends c.closed_after.ensures
