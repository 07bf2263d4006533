-- A row of fields, one field after another.
use Rattle.std.proofs.Common.{◌≡◌, ◌≢◌, ℕ, zero, suc, ◌+◌, ◌<◌, ◌≤◌, Bool, true, false, cond, ◌&&◌, not, eqb, ltb, leb, List, [], ◌∷◌, length, take, drop, get_or, Option, Some, None, option_map, option_and_then, is_some, unwrap_or, find, refl, sym, ap, ◌∙◌, arith, add-one, ◌⊎◌, inl, inr}
use Rattle.std.specs.Bool.{then_some}
use Rattle.std.specs.List.{position_or_len, list_all}
use Rattle.std.proofs.lemmas.List.Sums.{fails_before_first, passes_at_first}
use Rattle.std.proofs.lemmas.Bool.{cases_lt, false≢true}
use Rattle.std.proofs.lemmas.Bool.Decides.{nat_tests}
use Rattle.fix_wire_frames.specs.code.Texts.{is_soh, is_equals}
use Rattle.fix_wire_values.specs.Digits.{number_of}
use Rattle.std.proofs.lemmas.List.Folds.{list_all_at}
use Rattle.std.specs.Char.{is_ascii_digit}
use Rattle.std.proofs.lemmas.List.{length-take-le, get_or-take}
use Rattle.fix_wire_frames.specs.declared.frame.FrameHeader.{FrameHeader}
use Rattle.fix_wire_frames.specs.Frames.{header, body_at}
use Rattle.fix_wire_frames.specs.Messages.{fields}
use Rattle.fix_wire_frames.specs.Fields.{TagValue, field_of_text, fields_of_body}
use Rattle.fix_wire_frames.specs.code.Fields.{field_texts, prepended, with_first, field_with, is_tag, fields_of_texts, fields_by_texts}
use Rattle.fix_wire_frames.proofs.fields.TextsOfABody.{prepended_first, fields_are}
use Rattle.fix_wire_frames.specs.code.Scans.{first_field, field_up_to, value_of}

-- the first byte 1 ends the first piece
pub field_texts_cut : (xs : List ℕ) (k : ℕ) → k < length xs → eqb (get_or xs k 0) 1 ≡ true
    → ((j : ℕ) → j < k → eqb (get_or xs j 0) 1 ≡ false)
    → field_texts xs ≡ option_map (with_first (take k xs)) (field_texts (drop (suc k) xs))
field_texts_cut [] k l at before = absurd (omega arith)
field_texts_cut (b ∷ bs) zero l at before = ap (λ x. cond x (option_map (with_first []) (field_texts bs))
    (option_and_then (prepended b) (field_texts bs))) at
field_texts_cut (b ∷ bs) (suc k) l at before =
    ap (λ x. cond x (option_map (with_first []) (field_texts bs)) (option_and_then (prepended b) (field_texts bs)))
    (before 0 (omega arith))
    ∙ ap (option_and_then (prepended b)) (field_texts_cut bs k (omega arith) at (λ j l. before (suc j) (omega arith)))
    ∙ prepended_first b (take k bs) (field_texts (drop (suc k) bs))

-- bytes without byte 1 are no row
pub field_texts_open : (xs : List ℕ) → 0 < length xs → ((j : ℕ) → j < length xs → eqb (get_or xs j 0) 1 ≡ false)
    → field_texts xs ≡ None
field_texts_open [] some before = absurd (omega arith)
field_texts_open (b ∷ []) some before = ap (λ x. cond x (option_map (with_first []) (Some []))
    (option_and_then (prepended b) (Some []))) (before 0 (omega arith))
field_texts_open (b ∷ c ∷ cs) some before =
    ap (λ x. cond x (option_map (with_first []) (field_texts (c ∷ cs)))
    (option_and_then (prepended b) (field_texts (c ∷ cs)))) (before 0 (omega arith))
    ∙ ap (option_and_then (prepended b)) (field_texts_open (c ∷ cs) (omega arith) (λ j l. before (suc j) (omega arith)))

-- the field in front of a row that follows
abbrev pub onto_row : TagValue × List ℕ → Option (List TagValue)
onto_row p = option_map (λ fs. p.0 ∷ fs) (fields_of_body p.1)

abbrev onto_texts : TagValue × List ℕ → Option (List TagValue)
onto_texts p = option_map (λ fs. p.0 ∷ fs) (fields_by_texts p.1)

with_field : (piece rest : List ℕ) (f : Option TagValue) (o : Option (List (List ℕ))) → o ≡ field_texts rest
    → f ≡ field_of_text piece →
    option_and_then fields_of_texts (option_map (with_first piece) o) ≡ option_and_then onto_texts
    (option_map (λ x. (x, rest)) f)
with_field piece rest None None e g = refl
with_field piece rest (Some f) None e g = ap (λ x. option_map (λ fs. f ∷ fs) (option_and_then fields_of_texts x)) e
with_field piece rest None (Some qs) e g = ap (λ x. option_and_then
    (λ f. option_map (λ fs. f ∷ fs) (fields_of_texts qs)) x) (sym g)
with_field piece rest (Some f) (Some qs) e g =
    ap (λ x. option_and_then (λ f. option_map (λ fs. f ∷ fs) (fields_of_texts qs)) x) (sym g)
    ∙ ap (λ x. option_map (λ fs. f ∷ fs) (option_and_then fields_of_texts x)) e

row_at : (xs : List ℕ) (end : ℕ) → end ≡ position_or_len is_soh xs → 0 < length xs
    → (end < length xs) ⊎ (length xs ≤ end) → fields_by_texts xs ≡ option_and_then onto_texts (field_up_to end xs)
row_at xs end e some (inl l) =
    let here : ltb end (length xs) ≡ true = grind (arith, nat_tests) in
    let at : eqb (get_or xs end 0) 1 ≡ true = rw e (passes_at_first is_soh xs 0 (rw (← e) l)) in
    let before : (j : ℕ) → j < end → eqb (get_or xs j 0) 1 ≡ false =
    λ j below. fails_before_first is_soh xs j 0 (rw (← e) below) in
    let cut = field_texts_cut xs end l at before in
    ap (option_and_then fields_of_texts) cut
    ∙ with_field (take end xs) (drop (suc end) xs) (field_of_text (take end xs)) (field_texts (drop (suc end) xs)) refl
    refl
    ∙ ap (λ x. option_and_then onto_texts (option_map (λ f. (f, drop x xs)) (field_of_text (take end xs))))
    (sym (add-one end))
    ∙ ap (λ x. option_and_then onto_texts (cond x (option_map (λ f. (f, drop (end + 1) xs))
    (field_of_text (take end xs))) None)) (sym here)
row_at xs end e some (inr l) =
    let past_frame : ltb end (length xs) ≡ false = grind (arith, nat_tests) in
    let before : (j : ℕ) → j < length xs → eqb (get_or xs j 0) 1 ≡ false =
    λ j below. fails_before_first is_soh xs j 0 (rw (← e) (omega arith)) in
    ap (option_and_then fields_of_texts) (field_texts_open xs some before)
    ∙ ap (λ x. option_and_then onto_texts (cond x (option_map (λ f. (f, drop (end + 1) xs))
    (field_of_text (take end xs))) None)) (sym past_frame)

-- a row is its first field and the row behind it
pub row_is : (xs : List ℕ) → 0 < length xs → fields_of_body xs ≡ option_and_then onto_row (first_field xs)
row_is xs some =
    fields_are xs ∙ row_at xs (position_or_len is_soh xs) refl some (cases_lt (position_or_len is_soh xs) (length xs))
    ∙ (λ i. option_and_then (λ p. option_map (λ fs. p.0 ∷ fs) (sym (fields_are p.1) i)) (first_field xs))

-- the row behind a field is a row exactly where the row is one
pub row_some : (xs : List ℕ) (p : TagValue × List ℕ) → 0 < length xs → Some p ≡ first_field xs
    → is_some (fields_of_body p.1) ≡ is_some (fields_of_body xs)
row_some xs p some e = sym (ap is_some (row_is xs some ∙ ap (option_and_then onto_row) (sym e))
    ∙ is_some_onto p (fields_of_body p.1))
  where
    is_some_onto : (p : TagValue × List ℕ) (o : Option (List TagValue))
        → is_some (option_map (λ fs. p.0 ∷ fs) o) ≡ is_some o
    is_some_onto p None = refl
    is_some_onto p (Some fs) = refl

pub row_none : (xs : List ℕ) → 0 < length xs → None ≡ first_field xs → fields_of_body xs ≡ None
row_none xs some e = row_is xs some ∙ ap (option_and_then onto_row) (sym e)

pub place_within : (p : ℕ → Bool) (xs : List ℕ) → position_or_len p xs ≤ length xs
place_within p [] = omega arith
place_within p (x ∷ xs) = elim (p x) as (λ v. cond (not v) (1 + position_or_len p xs) 0 ≤ suc (length xs))
    [ true ↦ omega arith | false ↦ omega (arith, place_within p xs) ]

is_tag_is : (tag : List ℕ) → 1 ≤ length tag → length tag ≤ 9 → list_all is_ascii_digit tag ≡ true → get_or tag 0 0 ≢ 48
    → is_tag tag ≡ true
is_tag_is tag some few digits first =
    let a : leb 1 (length tag) ≡ true = grind (arith, nat_tests) in
    let b : leb (length tag) 9 ≡ true = grind (arith, nat_tests) in
    let d : eqb (get_or tag 0 0) 48 ≡ false = grind (arith, nat_tests) in
    rw (a, b, digits, d)

-- a text that begins with a tag and `=` is a field
pub field_found : (piece : List ℕ) (digits tag : ℕ) → digits ≡ position_or_len is_equals piece → digits < length piece
    → digits ≢ 0 → digits ≤ 9 → get_or piece 0 0 ≢ 48 → list_all is_ascii_digit (take digits piece) ≡ true
    → tag ≡ number_of (take digits piece) →
    Some (record { tag = tag; value = drop (digits + 1) piece }) ≡ field_of_text piece
field_found piece digits tag e l some few first known value =
    let len = length-take-le digits piece (omega arith) in
    let same = get_or-take digits piece 0 0 (omega arith) in
    let shape = is_tag_is (take digits piece) (omega arith) (omega arith) known (λ z. first (sym same ∙ z)) in
    let here : ltb digits (length piece) ≡ true = grind (arith, nat_tests) in
    ap (λ t. Some (record { tag = t; value = drop (digits + 1) piece })) value
    ∙ sym (ap (λ x. then_some x (record { tag = number_of (take digits piece); value = drop (digits + 1) piece }))
    (ap (λ x. x && is_tag (take digits piece)) here ∙ shape))
    ∙ ap (λ k. field_with k piece) e

not_field : (text : List ℕ) (p : ℕ) (b : Bool) → b ≡ is_tag (take p text) → (p < length text → b ≡ false)
    → (ltb p (length text) && is_tag (take p text)) ≡ false
not_field text p false e h = ap (λ x. ltb p (length text) && x) (sym e) ∙ and_false (ltb p (length text))
  where
    and_false : (x : Bool) → (x && false) ≡ false
    and_false true = refl
    and_false false = refl
not_field text p true e h = by_place (cases_lt p (length text))
  where
    by_place : (p < length text) ⊎ (length text ≤ p) → (ltb p (length text) && is_tag (take p text)) ≡ false
    by_place (inl l) = absurd (false≢true (sym (h l)))
    by_place (inr m) = let past : ltb p (length text) ≡ false = grind (arith, nat_tests) in
        ap (λ x. x && is_tag (take p text)) past

-- a text is no field where no `=` stands among its first bytes and no longer front is a tag
pub no_field : (text : List ℕ) (i : ℕ) → ((j : ℕ) → j < i → eqb (get_or text j 0) 61 ≡ false)
    → ((p : ℕ) → i ≤ p → p < length text → is_tag (take p text) ≡ false) → None ≡ field_of_text text
no_field text i before other =
    let p = position_or_len is_equals text in
    sym (ap (λ x. then_some x (record { tag = number_of (take p text); value = drop (p + 1) text }))
    (not_field text p (is_tag (take p text)) refl (λ l. other p (past (cases_lt p i) l) l)))
  where
    past : (position_or_len is_equals text < i) ⊎ (i ≤ position_or_len is_equals text)
        → position_or_len is_equals text < length text → i ≤ position_or_len is_equals text
    past (inl less) l = absurd (false≢true (sym (before (position_or_len is_equals text) less)
        ∙ passes_at_first is_equals text 0 l))
    past (inr more) l = more

third_false : (a b c d : Bool) → c ≡ false → (((a && b) && c) && d) ≡ false
third_false true true c d e = ap (λ x. x && d) e
third_false true false c d e = refl
third_false false b c d e = refl

second_false : (a b c d : Bool) → b ≡ false → (((a && b) && c) && d) ≡ false
second_false true b c d e = ap (λ x. (x && c) && d) e
second_false false b c d e = refl

-- no front past another byte than a digit is a tag
pub not_digits : (text : List ℕ) (i p : ℕ) → is_ascii_digit (get_or text i 0) ≡ false → i < p → p < length text
    → is_tag (take p text) ≡ false
not_digits text i p e l m =
    let len = length-take-le p text (omega arith) in
    let t = take p text in
    second_false (leb 1 (length t)) (list_all is_ascii_digit t) (leb (length t) 9) (not (eqb (get_or t 0 0) 48))
    (list_all_at is_ascii_digit (take p text) i 0 (omega (arith, len))
    (ap is_ascii_digit (get_or-take p text i 0 l) ∙ e))

-- no front of more than nine bytes is a tag
pub too_long : (text : List ℕ) (p : ℕ) → 9 < p → p < length text → is_tag (take p text) ≡ false
too_long text p l m =
    let len = length-take-le p text (omega arith) in
    let more : leb (length (take p text)) 9 ≡ false = grind (arith, nat_tests) in
    let t = take p text in
    third_false (leb 1 (length t)) (list_all is_ascii_digit t) (leb (length t) 9) (not (eqb (get_or t 0 0) 48)) more

-- a field of what stands before the first byte 1 is the first field of a body
pub first_field_found : (body : List ℕ) (end : ℕ) (f : TagValue) → end ≡ position_or_len is_soh body → end < length body
    → Some f ≡ field_of_text (take end body) →
    ◌≡◌ {A = Option (TagValue × List ℕ)} (Some (f, drop (end + 1) body)) (first_field body)
first_field_found body end f e l field =
    let here : ltb end (length body) ≡ true = grind (arith, nat_tests) in
    ap (option_map (λ g. (g, drop (end + 1) body))) field
    ∙ sym (ap (λ x. cond x (option_map (λ g. (g, drop (end + 1) body)) (field_of_text (take end body))) None) here)
    ∙ ap (λ k. field_up_to k body) e

-- the first field with a tag, one field after another
pub value_step : (tag : ℕ) (xs : List ℕ) (p : TagValue × List ℕ) → 0 < length xs → Some p ≡ first_field xs
    → is_some (fields_of_body xs) ≡ true → value_of tag xs ≡ cond (eqb p.0.tag tag) (Some p.0.value) (value_of tag p.1)
value_step tag xs p some e whole = by_row (fields_of_body p.1) refl
    (row_is xs some ∙ ap (option_and_then onto_row) (sym e))
  where
    by_test : (b : Bool) (fs : List TagValue) → option_map (λ f. f.value)
        (cond b (Some p.0) (find (λ f. eqb f.tag tag) fs)) ≡ cond b (Some p.0.value)
        (option_map (λ f. f.value) (find (λ f. eqb f.tag tag) fs))
    by_test true fs = refl
    by_test false fs = refl

    by_row : (o : Option (List TagValue)) → o ≡ fields_of_body p.1
        → fields_of_body xs ≡ option_map (λ fs. p.0 ∷ fs) (fields_of_body p.1)
        → value_of tag xs ≡ cond (eqb p.0.tag tag) (Some p.0.value) (value_of tag p.1)
    by_row None o is = absurd (false≢true (sym (ap is_some (is ∙ ap (option_map (λ fs. p.0 ∷ fs)) (sym o))) ∙ whole))
    by_row (Some fs) o is =
        ap (λ r. option_map (λ f. f.value) (find (λ f. eqb f.tag tag) (unwrap_or r [])))
        (is ∙ ap (option_map (λ fs. p.0 ∷ fs)) (sym o))
        ∙ by_test (eqb p.0.tag tag) fs
        ∙ ap (λ r. cond (eqb p.0.tag tag) (Some p.0.value)
        (option_map (λ f. f.value) (find (λ f. eqb f.tag tag) (unwrap_or r [])))) o

value_cond : (b : Bool) (v : List ℕ) (w x : Option (List ℕ)) → x ≡ cond b (Some v) w → b ≡ true → x ≡ Some v
value_cond true v w x e t = e
value_cond false v w x e t = absurd (false≢true t)

value_past : (b : Bool) (v : List ℕ) (w x : Option (List ℕ)) → x ≡ cond b (Some v) w → b ≡ false → x ≡ w
value_past true v w x e f = absurd (false≢true (sym f))
value_past false v w x e f = e

pub value_here : (tag : ℕ) (xs : List ℕ) (p : TagValue × List ℕ) → 0 < length xs → Some p ≡ first_field xs
    → is_some (fields_of_body xs) ≡ true → p.0.tag ≡ tag → value_of tag xs ≡ Some p.0.value
value_here tag xs p some e whole same =
    let t : eqb p.0.tag tag ≡ true = grind (arith, nat_tests) in value_cond _ _ _ _ (value_step tag xs p some e whole) t

pub value_behind : (tag : ℕ) (xs : List ℕ) (p : TagValue × List ℕ) → 0 < length xs → Some p ≡ first_field xs
    → is_some (fields_of_body xs) ≡ true → p.0.tag ≢ tag → value_of tag xs ≡ value_of tag p.1
value_behind tag xs p some e whole other =
    let t : eqb p.0.tag tag ≡ false = grind (arith, nat_tests) in
    value_past _ _ _ _ (value_step tag xs p some e whole) t

pub value_none : (tag : ℕ) (xs : List ℕ) → 0 < length xs → None ≡ first_field xs → value_of tag xs ≡ None
value_none tag xs some e = ap (λ r. option_map (λ f. f.value) (find (λ f. eqb f.tag tag) (unwrap_or r [])))
    (row_none xs some e)

-- the fields of a message whose claim is known
pub fields_at : (frame : List ℕ) (head : FrameHeader) → header frame ≡ Some head
    → fields frame ≡ unwrap_or (fields_of_body (body_at frame head)) []
unfolding fields
fields_at frame head e = ap (λ c. unwrap_or (option_and_then (λ h. fields_of_body (body_at frame h)) c) []) e

pub first_some : (xs : List ℕ) (p : TagValue × List ℕ) → Some p ≡ first_field xs → 0 < length xs
first_some [] p e = cc
first_some (x ∷ xs) p e = omega arith
