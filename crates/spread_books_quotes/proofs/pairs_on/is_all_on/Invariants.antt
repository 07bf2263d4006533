use Rattle.std.proofs.Common.{ℕ, ◌<◌}
use Rattle.spread_rules_rulebook.specs.Rulebook.{implied}
use Rattle.spread_books_quotes.specs.code.PairsOn.{IsRowOn}
use Rattle.spread_books_quotes.proofs.pairs_on.is_all_on.Given as goal

abbrev pub invariant-loop-near : goal.invariant-loop-near
invariant-loop-near l = (near : ℕ) → near < l.near → IsRowOn (implied l.rules) near
