-- The first field of a body is MsgType.
use Rattle.std.proofs.Common.{◌≡◌, ℕ, Bool, true, false, ◌&&◌, nat_eq, eqb, ltb, List, [], ◌∷◌, ◌++◌, length, drop, Option, Some, None, option_map, option_and_then, is_some, unwrap_or, find, refl, sym, ap, subst, ◌∙◌}
use Rattle.std.specs.Bool.{then_some}
use Rattle.std.specs.List.{starts_with}
use Rattle.std.proofs.lemmas.Bool.{and_parts, false≢true, eqb-true}
use Rattle.fix_wire_frames.specs.Fields.{TagValue, fields_of_body}
use Rattle.fix_wire_frames.specs.code.Fields.{field_texts, prepended, fields_of_texts, fields_by_texts}
use Rattle.fix_wire_frames.specs.code.Frames.{is_body}
use Rattle.fix_wire_frames.specs.code.Messages.{first_value}
use Rattle.fix_wire_frames.specs.code.Scans.{value_of}
use Rattle.fix_wire_frames.proofs.fields.TextsOfABody.{fields_are}

-- a text that begins with a word is that word and what follows
front_whole : (word text : List ℕ) → starts_with nat_eq text word ≡ true → text ≡ word ++ drop (length word) text
front_whole [] text e = refl
front_whole (p ∷ ps) [] e = absurd (false≢true e)
front_whole (p ∷ ps) (b ∷ bs) e =
    let parts = and_parts (eqb p b) (starts_with nat_eq bs ps) e in
    ap (λ x. x ∷ bs) (sym (eqb-true p b parts.0)) ∙ ap (λ t. p ∷ t) (front_whole ps bs parts.1)

-- the value of the first field with tag 35 is that of the first field
abbrev IsFirst : Option (List TagValue) → Type 0
IsFirst o = option_map (λ f. f.value) (find (λ f. eqb f.tag 35) (unwrap_or o [])) ≡ Some (first_value (unwrap_or o []))

by_field : (v : Bool) (value : List ℕ) (o : Option (List TagValue))
    → is_some (option_and_then (λ f. option_map (λ fs. f ∷ fs) o) (then_some v (record { tag = 35; value = value }))) ≡
    true →
    IsFirst (option_and_then (λ f. option_map (λ fs. f ∷ fs) o) (then_some v (record { tag = 35; value = value })))
by_field true value (Some fs) e = refl
by_field true value None e = absurd (false≢true e)
by_field false value o e = absurd (false≢true e)

by_texts : (o : Option (List (List ℕ))) → is_some (option_and_then fields_of_texts
    (option_and_then (prepended 51) (option_and_then (prepended 53) (option_and_then (prepended 61) o)))) ≡ true →
    IsFirst (option_and_then fields_of_texts (option_and_then (prepended 51)
    (option_and_then (prepended 53) (option_and_then (prepended 61) o))))
by_texts None e = absurd (false≢true e)
by_texts (Some []) e = absurd (false≢true e)
by_texts (Some (t ∷ ts)) e = by_field (ltb 2 (length (51 ∷ 53 ∷ 61 ∷ t)) && true) t (fields_of_texts ts) e

first_of_row : (body : List ℕ) → starts_with nat_eq body (51 ∷ 53 ∷ 61 ∷ []) ≡ true
    → is_some (fields_by_texts body) ≡ true → IsFirst (fields_by_texts body)
first_of_row body e row =
    let whole = front_whole (51 ∷ 53 ∷ 61 ∷ []) body e in
    subst (λ x. is_some (fields_by_texts x) ≡ true → IsFirst (fields_by_texts x)) (sym whole)
    (by_texts (field_texts (drop 3 body))) row

pub kind_first : (body : List ℕ) → is_body body ≡ true
    → value_of 35 body ≡ Some (first_value (unwrap_or (fields_of_body body) []))
kind_first body e =
    let parts = and_parts (starts_with nat_eq body (51 ∷ 53 ∷ 61 ∷ [])) (is_some (fields_of_body body)) e in
    subst IsFirst (sym (fields_are body)) (first_of_row body parts.0 (ap is_some (sym (fields_are body)) ∙ parts.1))
