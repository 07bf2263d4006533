use Rattle.std.proofs.Common.{refl}
use Rattle.intake_lines.proofs.PiecesReadInTurn.{starts}
use Rattle.intake_lines.proofs.day_reader.DayReader.new.Goals as goal

pub returns-clause-read : goal.returns-clause-read
returns-clause-read g c = starts _ c.in_ok-new.ensures c.new-2.ensures.items refl refl
