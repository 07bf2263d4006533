-- Whether each pair of months takes part in implied trading.
-- Words of the code alone.
use Rattle.std.specs.Prelude.{◌≡◌, ℕ, ◌<◌, true}
use Rattle.spread_rules_ids.specs.declared.limits.TheConstants as limits
use Rattle.spread_rules.specs.Candidates.{Pairs}

-- each pair with that near month does
abbrev pub IsRowOn : Pairs → ℕ → Type 0
IsRowOn on near =
    (far : ℕ) → far < limits.MAX_MONTHS → on near far ≡ true

-- each pair of the months that a rulebook can have does
abbrev pub AreAllOn : Pairs → Type 0
AreAllOn on = (near : ℕ) → near < limits.MAX_MONTHS → IsRowOn on near
