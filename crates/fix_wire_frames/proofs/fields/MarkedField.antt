-- A field that ends at the first SOH from a place on.
use Rattle.std.proofs.Common.{◌≡◌, ℕ, ◌+◌, ◌-◌, ◌<◌, ◌≤◌, Bool, true, false, cond, ltb, List, Option, Some, None, option_map, length, take, drop, refl, sym, ap, ◌∙◌, subst, arith, ◌⊎◌, inl, inr}
use Rattle.std.specs.List.{position_or_len, between}
use Rattle.std.specs.Prelude.{slice_range}
use Rattle.std.proofs.lemmas.Bool.{cases_lt}
use Rattle.std.proofs.lemmas.Bool.Decides.{nat_tests}
use Rattle.std.proofs.lemmas.List.{drop-take, drop-drop, take-take, length-drop, length-take-le}
use Rattle.std.proofs.lemmas.Slice.{between_is}
use Rattle.fix_wire_frames.specs.declared.frame.Tag.{Tag}
use Rattle.fix_wire_frames.specs.code.Texts.{is_soh}
use Rattle.fix_wire_frames.specs.Fields.{TagValue, field_of_text}
use Rattle.fix_wire_frames.specs.code.Scans.{first_field, field_up_to, tag_view, leading_field_view}
use Rattle.fix_wire_values.proofs.FirstPlace.{front_found, front_none}
use Rattle.fix_wire_frames.proofs.fields.RowOfFields.{place_within, first_field_found}

-- the body from a place on is the front of the text from there on
rest_of_body : (text : List ℕ) (count from : ℕ) → from ≤ count
    → drop from (take count text) ≡ take (count - from) (drop from text)
rest_of_body text count from l =
    let e : count ≡ from + (count - from) = omega arith in
    ap (λ n. drop from (take n text)) e ∙ drop-take from (count - from) text

rest_length : (text : List ℕ) (count from : ℕ) → count ≤ length text → from ≤ count
    → length (drop from (take count text)) ≡ count - from
rest_length text count from within l = length-drop from (take count text)
    ∙ ap (λ n. n - from) (length-take-le count text within)

-- none in the body
pub no_end : (text : List ℕ) (count from end : ℕ) → count ≤ length text → from < count
    → end ≡ from + position_or_len is_soh (drop from text) → count ≤ end
    → ◌≡◌ {A = Option (TagValue × List ℕ)} None (first_field (drop from (take count text)))
no_end text count from end within l e past =
    let rest = drop from (take count text) in
    let k = count - from in
    let is = rest_of_body text count from (omega arith) in
    let long = rest_length text count from within (omega arith) in
    let len = length-drop from text in
    let small = place_within is_soh (take k (drop from text)) in
    let place = by_place (cases_lt (position_or_len is_soh (take k (drop from text))) k) in
    let here : ltb (position_or_len is_soh rest) (length rest) ≡ false =
    not_less (position_or_len is_soh rest) (length rest)
    (omega (arith, ap (position_or_len is_soh) is, long, place)) in
    sym (ap (λ x. cond x (option_map (λ f. (f, drop (position_or_len is_soh rest + 1) rest))
    (field_of_text (take (position_or_len is_soh rest) rest))) None) here)
  where
    not_less : (a b : ℕ) → b ≤ a → ltb a b ≡ false
    not_less a b h = grind (arith, nat_tests)

    by_place : (position_or_len is_soh (take (count - from) (drop from text)) < count - from) ⊎
        (count - from ≤ position_or_len is_soh (take (count - from) (drop from text)))
        → count - from ≤ position_or_len is_soh (take (count - from) (drop from text))
    by_place (inl less) =
        let same = front_found is_soh (count - from) (drop from text) less
        (omega (arith, length-drop from text, within)) in
        absurd (omega (arith, same, less, e, past))
    by_place (inr more) = more

-- the first SOH of the body is that of the text
end_of_body : (text : List ℕ) (count from end : ℕ) → count ≤ length text → from < count
    → end ≡ from + position_or_len is_soh (drop from text) → end < count
    → end - from ≡ position_or_len is_soh (drop from (take count text))
end_of_body text count from end within l e below =
    let is = ap (position_or_len is_soh) (rest_of_body text count from (omega arith)) in
    by_place is (cases_lt (position_or_len is_soh (take (count - from) (drop from text))) (count - from))
  where
    by_place : position_or_len is_soh (drop from (take count text)) ≡ position_or_len is_soh
        (take (count - from) (drop from text)) → (position_or_len is_soh (take (count - from) (drop from text)) < count
        - from) ⊎ (count - from ≤ position_or_len is_soh (take (count - from) (drop from text)))
        → end - from ≡ position_or_len is_soh (drop from (take count text))
    by_place is (inl less) =
        let same = front_found is_soh (count - from) (drop from text) less
        (omega (arith, length-drop from text, within)) in
        omega (arith, same, is, e)
    by_place is (inr more) =
        let behind = front_none is_soh (count - from) (drop from text) more
        (omega (arith, length-drop from text, within)) in
        absurd (omega (arith, behind, e, below))

between_drop : (xs : List ℕ) (from start end : ℕ) → between start end (drop from xs) ≡ between (from + start)
    (from + end) xs
between_drop xs from start end =
    let e : (from + end) - (from + start) ≡ end - start = omega arith in
    ap (λ t. take (end - start) t) (drop-drop start from xs) ∙ sym (ap (λ n. take n (drop (from + start) xs)) e)

-- what stands between a place of the body and its end
field_text : (text : List ℕ) (count from end : ℕ) → from ≤ end → end ≤ count
    → between from end text ≡ take (end - from) (drop from (take count text))
field_text text count from end l m =
    sym (ap (take (end - from)) (rest_of_body text count from (omega arith))
    ∙ take-take (end - from) (count - from) (drop from text) (omega arith))

pub tag_found : (text : List ℕ) (count from end : ℕ) (t : Tag) → count ≤ length text → from < count
    → end ≡ from + position_or_len is_soh (drop from text) → end < count →
    Some (tag_view (between from end text) t) ≡ field_of_text (between from end text) →
    Some (leading_field_view (take count text) (record { tag = t.number; start = from + t.digits + 1; end = end })) ≡
    first_field (drop from (take count text))
tag_found text count from end t within l e below field =
    let body = take count text in
    let rest = drop from (take count text) in
    let here = end_of_body text count from end within l e below in
    let long = rest_length text count from within (omega arith) in
    let is = field_text text count from end (omega (arith, e)) (omega arith) in
    let f = tag_view (take (end - from) rest) t in
    let found = first_field_found rest (end - from) f here (omega (arith, long))
    (subst (λ (x : List ℕ). Some (tag_view x t) ≡ field_of_text x) is field) in
    let next : from + (end - from + 1) ≡ end + 1 = omega (arith, e) in
    let place : from + (t.digits + 1) ≡ from + t.digits + 1 = omega arith in
    let upto : from + (end - from) ≡ end = omega (arith, e) in
    let value : slice_range body (from + t.digits + 1) end ≡ drop (t.digits + 1) (take (end - from) rest) =
    ap (λ n. between n end body) (sym place) ∙ ap (λ n. between (from + (t.digits + 1)) n body) (sym upto)
    ∙ sym (between_drop body from (t.digits + 1) (end - from)) ∙ between_is rest (t.digits + 1) (end - from) in
    let behind : drop (end + 1) body ≡ drop (end - from + 1) rest = ap (λ n. drop n body) (sym next)
    ∙ sym (drop-drop (end - from + 1) from body) in
    ap (λ v. Some (record { tag = t.number; value = v }, drop (end + 1) body)) value
    ∙ ap (λ r. Some (f, r)) behind
    ∙ found

pub tag_not_found : (text : List ℕ) (count from end : ℕ) → count ≤ length text → from < count
    → end ≡ from + position_or_len is_soh (drop from text) → end < count →
    None ≡ field_of_text (between from end text) → ◌≡◌ {A = Option (TagValue × List ℕ)} None
    (first_field (drop from (take count text)))
tag_not_found text count from end within l e below field =
    let rest = drop from (take count text) in
    let here = end_of_body text count from end within l e below in
    let is = field_text text count from end (omega (arith, e)) (omega arith) in
    let none = field ∙ ap field_of_text is in
    sym (ap (λ k. field_up_to k rest) (sym here) ∙ up_to_none rest (end - from) (ltb (end - from) (length rest)) refl
    none)
  where
    up_to_none : (rest : List ℕ) (k : ℕ) (b : Bool) → ltb k (length rest) ≡ b → None ≡ field_of_text (take k rest)
        → field_up_to k rest ≡ None
    up_to_none rest k true e none =
        ap (λ x. cond x (option_map (λ f. (f, drop (k + 1) rest)) (field_of_text (take k rest))) None) e
        ∙ ap (option_map (λ f. (f, drop (k + 1) rest))) (sym none)
    up_to_none rest k false e none =
        ap (λ x. cond x (option_map (λ f. (f, drop (k + 1) rest)) (field_of_text (take k rest))) None) e
