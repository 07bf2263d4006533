use Rattle.spread_books_ids.proofs.Lines.{Counts}
use Rattle.spread_books_ids.proofs.id_table.count_of.Given as goal

abbrev pub invariant-loop-at : goal.invariant-loop-at
invariant-loop-at l = Counts l.line.numbers l.at l.count
