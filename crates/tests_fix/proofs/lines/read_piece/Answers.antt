use Rattle.std.proofs.Common.{[]}
use Rattle.tests_fix.proofs.lines.read_piece.Goals as goal

-- nothing was read before the piece
pub take_piece-requires-clause-reading : goal.take_piece-requires-clause-reading
take_piece-requires-clause-reading c = ([], c.in_ok-reader.ensures.read)

-- and the piece alone behind it
pub into_journal-requires : goal.into_journal-requires
into_journal-requires c = (_, c.in_ok-take_piece.ensures.reads [] c.in_ok-reader.ensures.read)
