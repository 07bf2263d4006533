use Rattle.std.proofs.Common.{◌≡◌, drop}
use Rattle.std.specs.List.{find}
use Rattle.spread_rules.specs.Meaning.{is_own}
use Rattle.spread_books_rows.specs.code.Rows.{live}
use Rattle.spread_books_rows.proofs.place_rows.first_own.Given as goal

abbrev pub invariant-loop-row : goal.invariant-loop-row
invariant-loop-row l =
    find (is_own l.session l.id) (live (drop l.row-index l.rows)) ≡ find (is_own l.session l.id) (live l.rows)
