use Rattle.std.proofs.Common.{◌≡◌, true, ℕ, ◌<◌}
use Rattle.spread_rules_rulebook.specs.Rulebook.{implied}
use Rattle.spread_books_quotes.proofs.pairs_on.is_row_on.Given as goal

abbrev pub invariant-loop-far : goal.invariant-loop-far
invariant-loop-far l = (far : ℕ) → far < l.far → implied l.rules l.near far ≡ true
