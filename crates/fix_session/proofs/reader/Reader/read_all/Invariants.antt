use Rattle.std.proofs.Common.{length}
use Rattle.fix_session_judging.specs.Reading.{Fed}
use Rattle.fix_session.proofs.reader.Reader.read_all.Given as goal

abbrev pub invariant-loop : goal.invariant-loop
invariant-loop g l = Fed l.number l.initial.out.items l.initial.self l.out.items l.self

abbrev pub decreases-loop : goal.decreases-loop
decreases-loop g l = length l.self.held
