use Rattle.std.proofs.Common.{◌≡◌, ℕ, ◌+◌, All, drop}
use Rattle.std.specs.Prelude.{◌≢◌}
use Rattle.spread_books_ids.specs.Tables.{named_row, HasEnd}
use Rattle.spread_books_ids.specs.code.Seeks.{EndsAt}
use Rattle.spread_books_ids.proofs.id_table.seek_each.Given as goal

abbrev pub invariant-loop-at : goal.invariant-loop-at
invariant-loop-at g l =
    let es = l.line.numbers in
    record {
      named : named_row (g.R.IdRows.keys l.rows) l.key (drop l.at es) ≡ named_row (g.R.IdRows.keys l.rows) l.key es;
      ended : HasEnd (drop l.at es);
      ends : (j : ℕ) → EndsAt (drop l.at es) j → EndsAt es (l.at + j);
      full : All (λ (e : ℕ). e ≢ 0) (drop l.at es) → All (λ (e : ℕ). e ≢ 0) es;
    }
