use Rattle.std.proofs.Common.{◌≢◌, ◌<◌, ℕ, get_or, []}
use Rattle.spread_rules_rulebook.specs.RulebookText.{names_in}
use Rattle.spread_rules_rulebook.proofs.pair_line.month_named.Given as goal

abbrev pub invariant-loop-month : goal.invariant-loop-month
invariant-loop-month l = (m : ℕ) → m < l.month → get_or (names_in l.months) m [] ≢ l.name
