use Rattle.std.proofs.Common.{length}
use Rattle.fix_wire_framer.specs.Pieces.{IsDrained}
use Rattle.fix_session_judging.specs.Reading.{with_more, Fed}
use Rattle.fix_session.proofs.reader.Reader.read.Given as goal

abbrev pub invariant-loop-rest : goal.invariant-loop-rest
invariant-loop-rest g l = Fed l.number l.initial.out.items (with_more l.initial.self l.bytes) l.out.items
    (with_more l.self l.rest) × IsDrained l.self.held

abbrev pub decreases-loop-rest : goal.decreases-loop-rest
decreases-loop-rest g l = length l.rest
