-- The fields of a body: a tag, `=`, a value, and SOH after each.
use Rattle.std.specs.Prelude.{ℕ, ◌+◌, ◌&&◌, not, ◌==◌, nat_le, nat_lt, if◌then◌else◌, List, [], ◌∷◌, Option, length, take, drop, slice_index, filter_map}
use Rattle.std.specs.Bool.{then_some}
use Rattle.std.specs.List.{position_or_len, ends_with, slice_split}
use Rattle.std.specs.Str.{bytes_eq}
use Rattle.spread_rules_ids.specs.declared.bytes.TheConstants.{DIGIT_ZERO, EQUALS, SOH}
use Rattle.fix_wire_frames.specs.declared.frame.TheConstants.{MAX_TAG_DIGITS}
use Rattle.fix_wire_values.specs.Digits.{number_of}
use Rattle.fix_wire_values.specs.Values.{is_number}

-- one field
pub record TagValue : Type 0 where
  pub tag : ℕ
  pub value : List ℕ

-- a tag of 1 to 9 digits, the first of them not 0, then the first `=`, then the value, which may be empty
abbrev pub field_of_text : List ℕ → Option TagValue
field_of_text text =
    let digits = position_or_len (λ b. b == EQUALS) text in
    let tag = take digits text in
    then_some (nat_lt digits (length text) && (is_number tag
    && nat_le (length tag) MAX_TAG_DIGITS && not (slice_index tag 0 == DIGIT_ZERO)))
    (record { tag = number_of tag; value = drop (digits + 1) text })

-- the fields of a body, where each of its texts is one but for the last, behind the last SOH, which is empty
unfoldable pub fields_of_body : List ℕ → Option (List TagValue)
fields_of_body body =
    let texts = slice_split (λ b. b == SOH) body in
    let fields = filter_map field_of_text texts in
    then_some ((length texts == length fields + 1) && ends_with bytes_eq texts ([] ∷ [])) fields
