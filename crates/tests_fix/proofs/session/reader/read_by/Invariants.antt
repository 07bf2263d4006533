use Rattle.fix_wire_framer.specs.Pieces.{IsDrained}
use Rattle.tests_fix.proofs.session.reader.read_by.Given as goal

abbrev pub invariant-loop-piece : goal.invariant-loop-piece
invariant-loop-piece g l = IsDrained l.reader.held
