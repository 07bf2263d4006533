use Rattle.std.proofs.Common.{◌≡◌, ℕ, ◌<◌, ◌/◌, get_or, false}
use Rattle.std.specs.Prelude.{◌≢◌}
use Rattle.spread_books_ids.specs.declared.id_table.TheConstants.{ROWS}
use Rattle.spread_books_ids.proofs.id_table.has_tag.Given as goal

-- none so far has it
abbrev pub invariant-loop-at : goal.invariant-loop-at
invariant-loop-at l = l.any ≡ false → (j d : ℕ) → j < l.at → get_or l.line.numbers j d / ROWS ≢ l.tag
