use Rattle.std.proofs.Common.{◌≡◌, drop}
use Rattle.std.specs.Prelude.{slice_get}
use Rattle.spread_books_rows.specs.code.Rows.{live}
use Rattle.spread_books_rows.proofs.place_rows.nth_live.Given as goal

abbrev pub invariant-loop-row : goal.invariant-loop-row
invariant-loop-row l = slice_get (live (drop l.row-index l.rows)) l.left ≡ slice_get (live l.rows) l.n
