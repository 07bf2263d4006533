-- Words of the code alone, beside `Fields`: no promise of a whole day needs them to be read.
use Rattle.std.specs.Prelude.{ℕ, ◌+◌, Bool, ◌&&◌, not, ◌==◌, nat_le, nat_lt, if◌then◌else◌, List, [], ◌∷◌, Option, Some, None, option_map, option_and_then, length, take, drop, slice_index}
use Rattle.std.specs.Bool.{then_some}
use Rattle.spread_rules_ids.specs.declared.bytes.TheConstants.{DIGIT_ZERO, SOH}
use Rattle.fix_wire_frames.specs.declared.frame.TheConstants.{MAX_TAG_DIGITS}
use Rattle.fix_wire_values.specs.Digits.{number_of}
use Rattle.fix_wire_values.specs.Values.{is_number}
use Rattle.fix_wire_frames.specs.Fields.{TagValue, field_of_text}

-- a number of 1 to 9 digits, the first of them not 0
abbrev pub is_tag : List ℕ → Bool
is_tag tag =
    is_number tag && nat_le (length tag) MAX_TAG_DIGITS && not (slice_index tag 0 == DIGIT_ZERO)

abbrev pub with_first : List ℕ → List (List ℕ) → List (List ℕ)
with_first t ts = t ∷ ts

-- field_of_text, where so many bytes stand before the first `=`
abbrev pub field_with : ℕ → List ℕ → Option TagValue
field_with digits text =
    then_some (nat_lt digits (length text) && is_tag (take digits text))
    (record { tag = number_of (take digits text); value = drop (digits + 1) text })

-- the byte put in front of the first text; there has to be one
abbrev pub prepended : ℕ → List (List ℕ) → Option (List (List ℕ))
prepended b [] = None
prepended b (t ∷ ts) = Some ((b ∷ t) ∷ ts)

-- what stands before each SOH, where the last byte is SOH too
abbrev pub field_texts : List ℕ → Option (List (List ℕ))
field_texts [] = Some []
field_texts (b ∷ bs) =
    if b == SOH then option_map (λ texts. [] ∷ texts) (field_texts bs)
    else option_and_then (prepended b) (field_texts bs)

-- all of them, where each is a field
abbrev pub fields_of_texts : List (List ℕ) → Option (List TagValue)
fields_of_texts [] = Some []
fields_of_texts (t ∷ ts) =
    option_and_then (λ f. option_map (λ fs. f ∷ fs) (fields_of_texts ts)) (field_of_text t)

-- the fields of a body, one text after another
abbrev pub fields_by_texts : List ℕ → Option (List TagValue)
fields_by_texts body = option_and_then fields_of_texts (field_texts body)
