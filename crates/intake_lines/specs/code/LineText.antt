-- Words of the code alone, beside `LineText`: no promise of a whole day needs them to be read.
use Rattle.std.specs.Prelude.{ℕ, ◌+◌, Bool, true, ◌&&◌, ◌==◌, if◌then◌else◌, List, [], ◌∷◌, ◌++◌}
use Rattle.spread_rules_ids.specs.declared.bytes.TheConstants.{NUMBER_SIGN}

-- an empty line, or a comment, which begins with `#`
abbrev pub is_passed_over : List ℕ → Bool
is_passed_over [] = true
is_passed_over (b ∷ bs) = b == NUMBER_SIGN
