-- Decimal digits, and the numbers that they spell.
use Rattle.std.specs.Prelude.{ℕ, ◌+◌, ◌-◌, ◌*◌, ◌/◌, ◌%◌, ◌==◌, List, [], ◌∷◌, fold}
use Rattle.spread_rules_ids.specs.declared.bytes.TheConstants.{DIGIT_ZERO}

-- the last two digits of a number
abbrev pub two_digits : ℕ → List ℕ
two_digits n = (DIGIT_ZERO + n / 10 % 10) ∷ (DIGIT_ZERO + n % 10) ∷ []

-- the number that digits spell
abbrev pub number_of : List ℕ → ℕ
number_of ds = fold (λ n d. 10 * n + (d - DIGIT_ZERO)) 0 ds
