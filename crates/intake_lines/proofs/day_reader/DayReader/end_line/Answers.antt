use Rattle.std.proofs.Common.{refl}
use Rattle.intake_lines.proofs.PiecesReadInTurn.{line_ends}
use Rattle.intake_lines.proofs.day_reader.DayReader.end_line.Goals as goal

pub take_end-requires : goal.take_end-requires
take_end-requires g c = let h = c.requires.reading.1.going c.requires.going in (h.done, h.fed)

pub returns-clause-reads : goal.returns-clause-reads
returns-clause-reads g c =
    line_ends c.args.end.now c.in_ok-is_good.is_good c.args.self.now _ c.requires.going c.requires.one_line
    c.in_ok-is_good.ensures.line c.in_ok-is_good.ensures.emptied refl c.then_some-self.ensures
