-- The fields of a body said as a whole, and one text after another.
use Rattle.std.proofs.Common.{◌≡◌, ℕ, suc, ◌+◌, ◌-◌, ◌≤◌, Bool, true, false, cond, ◌&&◌, eqb, List, [], ◌∷◌, length, drop, Option, Some, None, option_map, option_and_then, refl, sym, ap, ◌∙◌, arith}
use lib.Pointwise.{pointwise}
use Rattle.std.specs.Prelude.{filter_map}
use Rattle.std.specs.Bool.{then_some}
use Rattle.std.specs.List.{cons_option, ends_with, onto_first, slice_split}
use Rattle.std.specs.Str.{bytes_eq}
use Rattle.std.proofs.Math.Bool.{and-false}
use Rattle.std.proofs.lemmas.Bool.{false≢true}
use Rattle.std.proofs.lemmas.Bool.Decides.{nat_tests}
use Rattle.fix_wire_frames.specs.code.Texts.{is_soh}
use Rattle.fix_wire_frames.specs.Fields.{TagValue, field_of_text, fields_of_body}
use Rattle.fix_wire_frames.specs.code.Fields.{field_texts, prepended, with_first, fields_of_texts, fields_by_texts}

pub prepended_first : (b : ℕ) (p : List ℕ) (o : Option (List (List ℕ)))
    → option_and_then (prepended b) (option_map (with_first p) o) ≡ option_map (with_first (b ∷ p)) o
prepended_first b p None = refl
prepended_first b p (Some ps) = refl

-- these texts without the last, where it is empty
abbrev ended_of : List (List ℕ) → Option (List (List ℕ))
ended_of [] = None
ended_of ([] ∷ []) = Some []
ended_of ((b ∷ bs) ∷ []) = None
ended_of (t ∷ u ∷ us) = option_map (with_first t) (ended_of (u ∷ us))

-- there is a first text
abbrev HasFirst : List (List ℕ) → Type 0
HasFirst ts = (t : List ℕ) × (us : List (List ℕ)) × (ts ≡ t ∷ us)

first_text : (bs : List ℕ) → HasFirst (slice_split is_soh bs)
first_text [] = ([], [], refl)
first_text (b ∷ bs) = by_test (first_text bs) (is_soh b)
  where
    by_test : HasFirst (slice_split is_soh bs) → (v : Bool)
        → HasFirst (cond v ([] ∷ slice_split is_soh bs) (onto_first b (slice_split is_soh bs)))
    by_test (t, us, e) true = ([], slice_split is_soh bs, refl)
    by_test (t, us, e) false = (b ∷ t, us, ap (onto_first b) e)

onto_ended : (b : ℕ) (t : List ℕ) (us : List (List ℕ))
    → option_and_then (prepended b) (ended_of (t ∷ us)) ≡ ended_of ((b ∷ t) ∷ us)
onto_ended b [] [] = refl
onto_ended b (x ∷ xs) [] = refl
onto_ended b t (u ∷ us) = prepended_first b t (ended_of (u ∷ us))

texts_are : (bs : List ℕ) → field_texts bs ≡ ended_of (slice_split is_soh bs)
texts_are [] = refl
texts_are (b ∷ bs) = by_test (texts_are bs) (first_text bs) (is_soh b)
  where
    by_test : field_texts bs ≡ ended_of (slice_split is_soh bs) → HasFirst (slice_split is_soh bs) → (v : Bool) →
        cond v (option_map (with_first []) (field_texts bs)) (option_and_then (prepended b) (field_texts bs)) ≡ ended_of
        (cond v ([] ∷ slice_split is_soh bs) (onto_first b (slice_split is_soh bs)))
    by_test ih (t, us, e) true =
        ap (option_map (with_first [])) ih ∙ ap (λ ts. option_map (with_first []) (ended_of ts)) e
        ∙ sym (ap (λ ts. ended_of ([] ∷ ts)) e)
    by_test ih (t, us, e) false =
        ap (option_and_then (prepended b)) ih ∙ ap (λ ts. option_and_then (prepended b) (ended_of ts)) e
        ∙ onto_ended b t us ∙ sym (ap (λ ts. ended_of (onto_first b ts)) e)

-- the texts end with an empty one
abbrev is_ended : List (List ℕ) → Bool
is_ended ts = ends_with bytes_eq ts ([] ∷ [])

ended_later : (t u : List ℕ) (us : List (List ℕ)) → is_ended (t ∷ u ∷ us) ≡ is_ended (u ∷ us)
ended_later t u us =
    let next : length (t ∷ u ∷ us) - 1 ≡ suc (length (u ∷ us) - 1) = omega arith in
    ap (λ n. pointwise bytes_eq ([] ∷ []) (drop n (t ∷ u ∷ us))) next

-- the empty one is no field
fewer_fields : (t : List ℕ) (us : List (List ℕ)) → is_ended (t ∷ us) ≡ true
    → length (filter_map field_of_text (t ∷ us)) ≤ length us
fewer_fields [] [] e = omega arith
fewer_fields (b ∷ bs) [] e = absurd (false≢true e)
fewer_fields t (u ∷ us) e = by_field (field_of_text t) (fewer_fields u us (sym (ended_later t u us) ∙ e))
  where
    by_field : (o : Option TagValue) → length (filter_map field_of_text (u ∷ us)) ≤ length us
        → length (cons_option o (filter_map field_of_text (u ∷ us))) ≤ suc (length us)
    by_field None ih = omega (arith, ih)
    by_field (Some f) ih = omega (arith, ih)

-- as many fields as texts but for the last
abbrev is_row : List (List ℕ) → List TagValue → Bool
is_row ts fs = eqb (length ts) (length fs + 1) && is_ended ts

onto_fields : (f : TagValue) (v : Bool) (fs : List TagValue)
    → option_map (λ gs. f ∷ gs) (then_some v fs) ≡ then_some v (f ∷ fs)
onto_fields f true fs = refl
onto_fields f false fs = refl

too_few : (n k : ℕ) → k ≤ n → eqb (suc (suc n)) (k + 1) ≡ false
too_few n k l = grind (arith, nat_tests)

-- where the first text is no field, they are too few
no_row : (t u : List ℕ) (us : List (List ℕ)) → is_row (t ∷ u ∷ us) (filter_map field_of_text (u ∷ us)) ≡ false
no_row t u us = by_end (is_ended (t ∷ u ∷ us)) refl
  where
    by_end : (v : Bool) → is_ended (t ∷ u ∷ us) ≡ v → (eqb (length (t ∷ u ∷ us))
        (length (filter_map field_of_text (u ∷ us)) + 1) && v) ≡ false
    by_end true e =
        let few = fewer_fields u us (sym (ended_later t u us) ∙ e) in
        ap (λ v. v && true) (too_few (length us) (length (filter_map field_of_text (u ∷ us))) few)
    by_end false e = and-false (eqb (length (t ∷ u ∷ us)) (length (filter_map field_of_text (u ∷ us)) + 1))

same_count : (n k : ℕ) → eqb n (k + 1) ≡ eqb (suc n) (suc k + 1)
same_count n k = grind (arith, nat_tests)

-- the first text of those that end with an empty one
first_field_of : (t : List ℕ) (o : Option (List (List ℕ)))
    → option_and_then fields_of_texts (option_map (with_first t) o) ≡ option_and_then
    (λ f. option_map (λ fs. f ∷ fs) (option_and_then fields_of_texts o)) (field_of_text t)
first_field_of t (Some ts) = refl
first_field_of t None = none (field_of_text t)
  where
    none : (f : Option TagValue) → None ≡ option_and_then (λ x. option_map (λ fs. x ∷ fs) None) f
    none None = refl
    none (Some f) = refl

row_of : (t : List ℕ) (us : List (List ℕ)) → option_and_then fields_of_texts (ended_of (t ∷ us)) ≡ then_some
    (is_row (t ∷ us) (filter_map field_of_text (t ∷ us))) (filter_map field_of_text (t ∷ us))
row_of [] [] = refl
row_of (b ∷ bs) [] =
    let fs = filter_map field_of_text ((b ∷ bs) ∷ []) in
    sym (ap (λ v. then_some v fs) (and-false (eqb 1 (length fs + 1))))
row_of t (u ∷ us) =
    first_field_of t (ended_of (u ∷ us))
    ∙ ap (λ r. option_and_then (λ f. option_map (λ fs. f ∷ fs) r) (field_of_text t)) (row_of u us)
    ∙ by_field (field_of_text t)
  where
    by_field : (o : Option TagValue) →
        option_and_then (λ f. option_map (λ fs. f ∷ fs) (then_some (is_row (u ∷ us) (filter_map field_of_text (u ∷ us)))
        (filter_map field_of_text (u ∷ us)))) o
        ≡ then_some (is_row (t ∷ u ∷ us) (cons_option o (filter_map field_of_text (u ∷ us))))
        (cons_option o (filter_map field_of_text (u ∷ us)))
    by_field None =
        let fs = filter_map field_of_text (u ∷ us) in
        sym (ap (λ v. then_some v fs) (no_row t u us))
    by_field (Some f) =
        let fs = filter_map field_of_text (u ∷ us) in
        onto_fields f (is_row (u ∷ us) fs) fs
        ∙ ap (λ v. then_some (v && is_ended (u ∷ us)) (f ∷ fs)) (same_count (length (u ∷ us)) (length fs))
        ∙ ap (λ v. then_some (eqb (length (t ∷ u ∷ us)) (length (f ∷ fs) + 1) && v) (f ∷ fs)) (sym (ended_later t u us))

-- both are the same
pub fields_are : (body : List ℕ) → fields_of_body body ≡ fields_by_texts body
unfolding fields_of_body
fields_are body = by_texts (first_text body)
  where
    by_texts : HasFirst (slice_split is_soh body) → fields_of_body body ≡ fields_by_texts body
    by_texts (t, us, e) =
        ap (λ ts. then_some (is_row ts (filter_map field_of_text ts)) (filter_map field_of_text ts)) e
        ∙ sym (row_of t us) ∙ sym (ap (λ ts. option_and_then fields_of_texts (ended_of ts)) e)
        ∙ ap (option_and_then fields_of_texts) (sym (texts_are body))
