-- A spelled row of fields is read as these fields.
use Rattle.std.proofs.Common.{◌≡◌, ℕ, suc, ◌+◌, Bool, true, false, cond, not, eqb, ltb, List, [], ◌∷◌, ◌++◌, length, drop, Some, option_map, option_and_then, refl, ap, ◌∙◌, arith, length-append, add-one}
use Rattle.std.specs.Char.{is_ascii_digit}
use Rattle.std.specs.List.{position_or_len, list_all, flat_map}
use Rattle.std.proofs.lemmas.List.{take_at, append_assoc}
use Rattle.std.proofs.lemmas.Bool.{and_parts, not-true}
use Rattle.std.proofs.lemmas.Bool.Decides.{nat_tests}
use Rattle.fix_wire_frames.specs.code.Texts.{is_equals}
use Rattle.fix_wire_values.specs.Digits.{number_of}
use Rattle.fix_wire_frames.specs.Fields.{TagValue, field_of_text, fields_of_body}
use Rattle.fix_wire_frames.specs.code.Fields.{field_texts, prepended, with_first, field_with, is_tag, fields_of_texts}
use Rattle.fix_wire_frames.proofs.fields.TextsOfABody.{prepended_first, fields_are}
use Rattle.fix_wire_frames.proofs.fields.ShortTags.{digit_is_not_equals}

-- no byte 1
abbrev pub is_plain : List ℕ → Bool
is_plain text = list_all (λ b. not (eqb b 1)) text

pub pieces_of : (p rest : List ℕ) → is_plain p ≡ true
    → field_texts (p ++ 1 ∷ rest) ≡ option_map (with_first p) (field_texts rest)
pieces_of [] rest e = refl
pieces_of (b ∷ p) rest e =
    let parts = and_parts (not (eqb b 1)) (is_plain p) e in
    let apart : eqb b 1 ≡ false = not-true (eqb b 1) parts.0 in
    ap (λ x. cond x (option_map (with_first []) (field_texts (p ++ 1 ∷ rest)))
    (option_and_then (prepended b) (field_texts (p ++ 1 ∷ rest)))) apart
    ∙ ap (option_and_then (prepended b)) (pieces_of p rest parts.1) ∙ prepended_first b p (field_texts rest)

place_at : (ds rest : List ℕ) → list_all is_ascii_digit ds ≡ true
    → position_or_len is_equals (ds ++ 61 ∷ rest) ≡ length ds
place_at [] rest e = refl
place_at (d ∷ ds) rest e =
    let parts = and_parts (is_ascii_digit d) (list_all is_ascii_digit ds) e in
    let apart : eqb d 61 ≡ false = digit_is_not_equals d parts.0 in
    ap (λ x. cond (not x) (1 + position_or_len is_equals (ds ++ 61 ∷ rest)) 0) apart
    ∙ (let h = place_at ds rest parts.1 in omega (arith, h))

-- a field, with the digits of its tag
pub record Spelled : Type 0 where
  pub digits : List ℕ
  pub value : List ℕ
  pub tag : is_tag digits ≡ true
  pub plain : is_plain (digits ++ 61 ∷ value) ≡ true

abbrev pub text_of : Spelled → List ℕ
text_of s = s.digits ++ 61 ∷ s.value

abbrev pub field_in : Spelled → TagValue
field_in s = record { tag = number_of s.digits; value = s.value }

abbrev pub ended : Spelled → List ℕ
ended s = text_of s ++ 1 ∷ []

abbrev pub map_texts : List Spelled → List (List ℕ)
map_texts [] = []
map_texts (s ∷ ss) = text_of s ∷ map_texts ss

abbrev pub map_fields : List Spelled → List TagValue
map_fields [] = []
map_fields (s ∷ ss) = field_in s ∷ map_fields ss

field_with_is : (s : Spelled) → field_with (length s.digits) (text_of s) ≡ Some (field_in s)
field_with_is s =
    let len = length-append s.digits (61 ∷ s.value) in
    let here : ltb (length s.digits) (length (text_of s)) ≡ true = grind (arith, nat_tests) in
    let front = take_at s.digits (61 ∷ s.value) (length s.digits) refl in
    let after : drop (length s.digits + 1) (text_of s) ≡ s.value = drop_next s.digits s.value in
    rw (here, front, s.tag, after)
  where
    drop_next : (ds v : List ℕ) → drop (length ds + 1) (ds ++ 61 ∷ v) ≡ v
    drop_next ds v = ap (λ n. drop n (ds ++ 61 ∷ v)) (add-one (length ds)) ∙ drop_suc ds v
      where
        drop_suc : (ds v : List ℕ) → drop (suc (length ds)) (ds ++ 61 ∷ v) ≡ v
        drop_suc [] v = refl
        drop_suc (d ∷ ds) v = drop_suc ds v

digits_of_tag : (ds : List ℕ) → is_tag ds ≡ true → list_all is_ascii_digit ds ≡ true
digits_of_tag ds e = (and_parts _ _ (and_parts _ _ (and_parts _ _ e).0).0).1

pub field_is : (s : Spelled) → field_of_text (text_of s) ≡ Some (field_in s)
field_is s = ap (λ k. field_with k (text_of s)) (place_at s.digits s.value (digits_of_tag s.digits s.tag))
    ∙ field_with_is s

pieces_all : (ss : List Spelled) → field_texts (flat_map ended ss) ≡ Some (map_texts ss)
pieces_all [] = refl
pieces_all (s ∷ ss) =
    ap field_texts (append_assoc (text_of s) (1 ∷ []) (flat_map ended ss))
    ∙ pieces_of (text_of s) (flat_map ended ss) s.plain ∙ ap (option_map (with_first (text_of s))) (pieces_all ss)

fields_all : (ss : List Spelled) → fields_of_texts (map_texts ss) ≡ Some (map_fields ss)
fields_all [] = refl
fields_all (s ∷ ss) =
    ap (option_and_then (λ f. option_map (λ fs. f ∷ fs) (fields_of_texts (map_texts ss)))) (field_is s)
    ∙ ap (option_map (λ fs. field_in s ∷ fs)) (fields_all ss)

-- what is spelled is read
pub row_spelled : (ss : List Spelled) → fields_of_body (flat_map ended ss) ≡ Some (map_fields ss)
row_spelled ss = fields_are (flat_map ended ss) ∙ ap (option_and_then fields_of_texts) (pieces_all ss) ∙ fields_all ss
