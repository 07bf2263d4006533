-- Words of the code alone, beside `Digits`: no promise of a whole day needs them to be read.
use Rattle.std.specs.Prelude.{ℕ, ◌+◌, ◌-◌, ◌*◌, ◌/◌, ◌%◌, Bool, ◌==◌, List, [], ◌∷◌, fold}
use Rattle.spread_rules_ids.specs.declared.bytes.TheConstants.{DIGIT_ZERO, POINT}

-- the number that these digits spell, after digits that spell n
abbrev pub number_after : ℕ → List ℕ → ℕ
number_after n ds = fold (λ k d. 10 * k + (d - DIGIT_ZERO)) n ds

-- `.`
abbrev pub is_point : ℕ → Bool
is_point b = b == POINT

-- `0`
abbrev pub is_zero : ℕ → Bool
is_zero b = b == DIGIT_ZERO
