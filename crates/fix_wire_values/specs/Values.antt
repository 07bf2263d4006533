-- What the text of a value means, and how a price is written.
use Rattle.std.specs.Prelude.{ℕ, ℤ, pos, neg_ℤ, ◌/◌, ◌%◌, Bool, ◌&&◌, not, ◌==◌, nat_le, nat_lt, if◌then◌else◌, List, [], ◌∷◌, ◌++◌, Result, Ok, Err, length, take, drop, slice_index, decimal, int_lt, unsigned_abs, codes}
use Rattle.std.specs.Char.{is_ascii_digit}
use Rattle.std.specs.List.{list_all, before_first, after_first}
use Rattle.std.specs.Result.{result_map_both}
use Rattle.spread_rules_ids.specs.declared.bytes.TheConstants.{DIGIT_ZERO, HYPHEN_MINUS, POINT}
use Rattle.spread_rules_ids.specs.declared.limits.TheConstants.{MAX_NUMBER}
use Rattle.fix_wire_values.specs.declared.values.TheConstants.{MAX_HUNDREDTHS}
use Rattle.fix_wire_values.specs.declared.values.Unread.{Unread}
use Rattle.fix_wire_values.specs.declared.values.Unread.TheVariants.{Format, Range}
use Rattle.fix_wire_values.specs.Digits.{number_of, two_digits}

-- one or more digits
abbrev pub is_number : List ℕ → Bool
is_number text = nat_lt 0 (length text) && list_all is_ascii_digit text

-- a value up to a limit
abbrev pub within : ℕ → ℕ → Result ℕ Unread
within most n = if nat_le n most then Ok n else Err Range

-- one or more digits, up to a limit
abbrev pub number_in : List ℕ → Result ℕ Unread
number_in text = if is_number text then within MAX_NUMBER (number_of text) else Err Format

-- one or more digits, then nothing, or a point and any number of zeros
abbrev pub quantity_in : List ℕ → Result ℕ Unread
quantity_in text =
    let whole = before_first (λ b. b == POINT) text in
    if is_number whole && list_all (λ b. b == DIGIT_ZERO) (after_first (λ b. b == POINT) text)
    then within MAX_NUMBER (number_of whole)
    else Err Format

-- hundredths without a sign: at least one digit, at most one point among, before or after the digits, and no digit
-- but 0 past the second place after the point
abbrev pub hundredths_in : List ℕ → Result ℕ Unread
hundredths_in text =
    let whole = before_first (λ b. b == POINT) text in
    let part = after_first (λ b. b == POINT) text in
    if not (is_number (whole ++ part)) then Err Format
    else (if list_all (λ b. b == DIGIT_ZERO) (drop 2 part)
    then within MAX_HUNDREDTHS (number_of (whole ++ take 2 (part ++ codes "00")))
    else Err Range)

-- an optional `-`, then hundredths
abbrev pub price_in : List ℕ → Result ℤ Unread
price_in text =
    if slice_index text 0 == HYPHEN_MINUS
    then result_map_both (λ n. neg_ℤ (pos n)) (λ e. e) (hundredths_in (drop 1 text))
    else result_map_both (λ n. pos n) (λ e. e) (hundredths_in text)

-- a price: an optional `-`, the whole part, a point and two digits; 10000 is `100.00`, -5 is `-0.05`
abbrev pub price_text : ℤ → List ℕ
price_text z =
    (if int_lt z (pos 0) then HYPHEN_MINUS ∷ [] else [])
    ++ (decimal (unsigned_abs z / 100) ++ (POINT ∷ two_digits (unsigned_abs z % 100)))
