-- Words of the code alone, beside `Values`: no promise of a whole day needs them to be read.
use Rattle.std.specs.Prelude.{ℕ, ◌/◌, ◌%◌, ◌&&◌, not, ◌==◌, if◌then◌else◌, List, [], ◌∷◌, ◌++◌, Option, Some, None, Result, Err, take, drop, min, codes}
use Rattle.std.specs.Char.{is_ascii_digit}
use Rattle.std.specs.List.{list_all}
use Rattle.spread_rules_ids.specs.declared.bytes.TheConstants.{DIGIT_ZERO}
use Rattle.fix_wire_values.specs.declared.values.TheConstants.{MAX_HUNDREDTHS}
use Rattle.fix_wire_values.specs.declared.values.Unread.{Unread}
use Rattle.fix_wire_values.specs.declared.values.Unread.TheVariants.{Format, Range}
use Rattle.fix_wire_values.specs.Digits.{number_of}
use Rattle.fix_wire_values.specs.Values.{is_number, within}

-- the number that digits spell, or the greatest price where it is more
abbrev pub limited_digits : List ℕ → Option ℕ
limited_digits text =
    if list_all is_ascii_digit text then Some (min (number_of text) MAX_HUNDREDTHS) else None

-- the hundredths that the digits after the point spell
abbrev pub cents : List ℕ → ℕ
cents part = number_of (take 2 (part ++ codes "00"))

-- hundredths_in, of what stands before and after the point
abbrev pub hundredths : List ℕ → List ℕ → Result ℕ Unread
hundredths whole part =
    if not (is_number (whole ++ part)) then Err Format
    else (if list_all (λ b. b == DIGIT_ZERO) (drop 2 part)
    then within MAX_HUNDREDTHS (number_of (whole ++ take 2 (part ++ codes "00")))
    else Err Range)
