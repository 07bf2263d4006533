-- one row more in a table
use Rattle.std.proofs.Common.{◌≡◌, ℕ, zero, suc, ◌+◌, ◌<◌, ◌≤◌, ◌/◌, ◌%◌, ◌==◌, Bool, true, false, cond, List, [], ◌∷◌, ◌++◌, length, get_or, set, take, All, Option, Some, None, ◌⊎◌, inl, inr, refl, ap, ◌∙◌, sym, subst, arith, ◌*◌, Result, Ok, Err, OnOk, IfOk, replicate, add-one}
use Rattle.std.specs.Prelude.{◌≢◌, slice_get}
use Rattle.std.specs.Option.{option_or, is_some}
use Rattle.std.proofs.lemmas.Bool.Decides.{nat_tests}
use Rattle.std.proofs.lemmas.List.{length-set, length-append, length-take-le}
use Rattle.std.proofs.lemmas.List.Elements.{All-set, All-append, All-take, All-replicate}
use Rattle.std.proofs.lemmas.Option.{get_or_from_slice_get, slice_get_within}
use Rattle.spread_rules_ids.specs.declared.id_key.IdKey.{IdKey}
use Rattle.spread_books_ids.specs.declared.id_table.Line.{Line}
use Rattle.spread_books_ids.specs.declared.id_table.Noted.{Noted}
use Rattle.spread_books_ids.specs.Notes.{is_known}
use Rattle.spread_books_ids.specs.declared.id_table.TheConstants.{ROWS}
use Rattle.spread_books_ids.specs.Ids.{is_key, first_row}
use Rattle.spread_books_ids.specs.Tables.{tag_of, line_of, names_key, named_row, HasEnd, numbers_of, line_for, NamesBelow, AreOfRows}
use Rattle.spread_books_ids.specs.code.Seeks.{EndsAt, with_number}
use Rattle.spread_books_ids.proofs.Keys.{key_is, is_key_sym}
use Rattle.spread_books_ids.proofs.Lines.{agree_more, agree_take, named_same, named_with, names_new, last_row, first_row_more, end_after, zero_was, ends_with_zero, full_has_no_zero, zeros_below, zeros_end, zeros_name_none}

-- ---- lines

pub has_all : {X : Type 0} (P : X → Type 0) (xs : List X) (j : ℕ) (x : X) → slice_get xs j ≡ Some x → All P xs → P x
has_all P xs j x at h = subst P (get_or_from_slice_get xs j x x at) (h j x (slice_get_within xs j x at))

pub line_named : (lines : List Line) (n : ℕ) (key : IdKey) → All (λ (l : Line). All (NamesBelow n) l.numbers) lines
    → All (NamesBelow n) (line_for lines key)
line_named lines n key h = at (slice_get lines (line_of (length lines) key)) refl
  where
    at : (l : Option Line) → slice_get lines (line_of (length lines) key) ≡ l → All (NamesBelow n) (numbers_of l)
    at None e = λ k d lt. absurd (omega arith)
    at (Some l) e = has_all (λ (m : Line). All (NamesBelow n) m.numbers) lines (line_of (length lines) key) l e h

pub set_same : (lines : List Line) (j : ℕ) (l : Line) → j < length lines → slice_get (set lines j l) j ≡ Some l
set_same [] j l lt = absurd (omega arith)
set_same (m ∷ lines) zero l lt = refl
set_same (m ∷ lines) (suc j) l lt = set_same lines j l (omega arith)

set_other : (lines : List Line) (j i : ℕ) (l : Line) → i ≢ j → slice_get (set lines j l) i ≡ slice_get lines i
set_other [] j i l ne = refl
set_other (m ∷ lines) zero zero l ne = absurd (ne refl)
set_other (m ∷ lines) zero (suc i) l ne = refl
set_other (m ∷ lines) (suc j) zero l ne = refl
set_other (m ∷ lines) (suc j) (suc i) l ne = set_other lines j i l (λ e. ne (ap suc e))

-- the line of a key where one line was set
line_set : (lines : List Line) (j : ℕ) (l : Line) (key : IdKey) → j < length lines → line_of (length lines) key ≡ j
    → line_for (set lines j l) key ≡ l.numbers
line_set lines j l key lt is =
    ap (λ (n : ℕ). numbers_of (slice_get (set lines j l) (line_of n key))) (length-set lines j l)
    ∙ (ap (λ (i : ℕ). numbers_of (slice_get (set lines j l) i)) is ∙ ap numbers_of (set_same lines j l lt))

line_kept : (lines : List Line) (j : ℕ) (l : Line) (key : IdKey) → line_of (length lines) key ≢ j
    → line_for (set lines j l) key ≡ line_for lines key
line_kept lines j l key ne =
    ap (λ (n : ℕ). numbers_of (slice_get (set lines j l) (line_of n key))) (length-set lines j l)
    ∙ ap numbers_of (set_other lines j (line_of (length lines) key) l ne)

-- ---- options

or_nothing : (o : Option ℕ) → option_or o None ≡ o
or_nothing None = refl
or_nothing (Some n) = refl

or_assoc : (a b c : Option ℕ) → option_or a (option_or b c) ≡ option_or (option_or a b) c
or_assoc None b c = refl
or_assoc (Some n) b c = refl

some_or : (a b : Option ℕ) → is_some a ≡ true → option_or a b ≡ a
some_or None b e = cc
some_or (Some n) b e = refl

length_more : (ks : List IdKey) (p : IdKey) → length (ks ++ p ∷ []) ≡ length ks + 1
length_more ks p = length-append ks (p ∷ [])

pub more_named : (n : ℕ) (lines : List Line) → All (λ (l : Line). All (NamesBelow n) l.numbers) lines
    → All (λ (l : Line). All (NamesBelow (n + 1)) l.numbers) lines
more_named n lines h = λ k d lt i e less some. (let old = h k d lt i e less some in omega (arith, old))

named_after : (lines : List Line) (ks : List IdKey) (p : IdKey)
    → All (λ (l : Line). All (NamesBelow (length ks)) l.numbers) lines →
    All (λ (l : Line). All (NamesBelow (length (ks ++ p ∷ []))) l.numbers) lines
named_after lines ks p h = subst (λ (n : ℕ). All (λ (l : Line). All (NamesBelow n) l.numbers) lines)
    (sym (length_more ks p)) (more_named (length ks) lines h)

-- ---- a row whose id was used

pub noted_used : (lines : List Line) (rest : IdKey → Option ℕ) (ks : List IdKey) (p : IdKey) → AreOfRows lines rest ks
    → is_some (first_row p ks) ≡ true → AreOfRows lines rest (ks ++ p ∷ [])
noted_used lines rest ks p h used = record {
  named = named_after lines ks p h.named;
  ended = h.ended;
  full = λ k i z most. h.full k i z (let more = length_more ks p in omega (arith, more, most));
  finds = λ k.
      ap (λ (o : Option ℕ). option_or o (rest k)) (named_same (length ks) (ks ++ p ∷ []) ks k (line_for lines k)
      (agree_more ks p) (line_named lines (length ks) k h.named))
      ∙ (h.finds k ∙ sym (first_row_more k ks p ∙ by_test k (is_key k p) refl));
}
  where
    by_test : (k : IdKey) (b : Bool) → is_key k p ≡ b → option_or (first_row k ks)
        (cond (is_key k p) (Some (length ks)) None) ≡ first_row k ks
    by_test k true e = some_or (first_row k ks) _ (ap (λ (q : IdKey). is_some (first_row q ks)) (key_is k p e) ∙ used)
    by_test k false e = ap (λ (b : Bool). option_or (first_row k ks) (cond b (Some (length ks)) None)) e
        ∙ or_nothing (first_row k ks)

-- ---- a row in the table behind the lines

pub noted_behind : (lines : List Line) (rest later : IdKey → Option ℕ) (ks : List IdKey) (p : IdKey)
    → AreOfRows lines rest ks →
    (All (λ (e : ℕ). e ≢ 0) (line_for lines p)) ⊎ (ROWS ≤ length ks)
    → ((q : IdKey) → later q ≡ option_or (rest q) (cond (is_key p q) (Some (length ks)) None))
    → AreOfRows lines later (ks ++ p ∷ [])
noted_behind lines rest later ks p h why put = record {
  named = named_after lines ks p h.named;
  ended = h.ended;
  full = λ k i z most.
      let fits : length ks + 1 ≤ ROWS = (let more = length_more ks p in omega (arith, more, most)) in
      let none = h.full k i z (omega (arith, fits)) in
      put k ∙ (ap (λ (o : Option ℕ). option_or o (cond (is_key p k) (Some (length ks)) None)) none
      ∙ ap (λ (b : Bool). cond b (Some (length ks)) None) (other k i z fits (is_key p k) refl));
  finds = λ k.
      ap (λ (o : Option ℕ). option_or o (later k)) (named_same (length ks) (ks ++ p ∷ []) ks k (line_for lines k)
      (agree_more ks p) (line_named lines (length ks) k h.named))
      ∙ (ap (option_or (named_row ks k (line_for lines k))) (put k)
      ∙ (or_assoc (named_row ks k (line_for lines k)) (rest k) (cond (is_key p k) (Some (length ks)) None)
      ∙ (ap (λ (o : Option ℕ). option_or o (cond (is_key p k) (Some (length ks)) None)) (h.finds k)
      ∙ (ap (λ (b : Bool). option_or (first_row k ks) (cond b (Some (length ks)) None)) (is_key_sym p k)
      ∙ sym (first_row_more k ks p)))));
}
  where
    cannot : (k : IdKey) (i : ℕ) → get_or (line_for lines k) i 1 ≡ 0 → length ks + 1 ≤ ROWS → p ≡ k → ⊥
    cannot k i z fits same = elim why [
      | inl full ↦ full_has_no_zero (line_for lines p) i full
          (ap (λ (q : IdKey). get_or (line_for lines q) i 1) same ∙ z)
      | inr many ↦ omega (arith, many, fits)
    ]

    other : (k : IdKey) (i : ℕ) → get_or (line_for lines k) i 1 ≡ 0 → length ks + 1 ≤ ROWS → (b : Bool) → is_key p k ≡ b
        → is_key p k ≡ false
    other k i z fits true e = absurd (cannot k i z fits (key_is p k e))
    other k i z fits false e = e

-- ---- a row in a line

-- what stands where a number is put: the line of that key, which ends there, and the number is of that key and the next row
pub record IsPlaced (lines : List Line) (ks : List IdKey) (p : IdKey) (l : Line) (at number : ℕ) : Type 0 where
  pub line : slice_get lines (line_of (length lines) p) ≡ Some l
  pub ends : EndsAt l.numbers at
  pub tag : number / ROWS ≡ tag_of p
  pub row : number % ROWS ≡ length ks
  pub some : number ≢ 0
  pub few : length ks < ROWS

pub noted_in_line : (lines : List Line) (rest : IdKey → Option ℕ) (ks : List IdKey) (p : IdKey) (l : Line)
    (at number : ℕ) → AreOfRows lines rest ks → IsPlaced lines ks p l at number →
    AreOfRows (set lines (line_of (length lines) p) (record { numbers = set l.numbers at number })) rest (ks ++ p ∷ [])
noted_in_line lines rest ks p l at number h w = record {
  named = All-set (λ (m : Line). All (NamesBelow (length (ks ++ p ∷ []))) m.numbers) lines j new here
      (named_after lines ks p h.named);
  ended = All-set (λ (m : Line). HasEnd m.numbers) lines j new (end_after l.numbers at number w.ends l_ended w.some)
      h.ended;
  full = λ k i z most. h.full k i (was_open k i z (line_of (length lines) k == j) refl)
      (let more = length_more ks p in omega (arith, more, most));
  finds = λ k. found k (line_of (length lines) k == j) refl;
}
  where
    j : ℕ
    j = line_of (length lines) p

    new : Line
    new = record { numbers = set l.numbers at number }

    l_named : All (NamesBelow (length ks)) l.numbers
    l_named = has_all (λ (m : Line). All (NamesBelow (length ks)) m.numbers) lines j l w.line h.named

    l_ended : HasEnd l.numbers
    l_ended = has_all (λ (m : Line). HasEnd m.numbers) lines j l w.line h.ended

    within : j < length lines
    within = slice_get_within lines j l w.line

    here : All (NamesBelow (length (ks ++ p ∷ []))) (set l.numbers at number)
    here = All-set (NamesBelow (length (ks ++ p ∷ []))) l.numbers at number
        (λ some. (let more = length_more ks p in let row = w.row in omega (arith, more, row)))
        (λ i e lt some. (let more = length_more ks p in let old = l_named i e lt some in omega (arith, more, old)))

    same_line : (k : IdKey) → (line_of (length lines) k == j) ≡ true → line_of (length lines) k ≡ j
    same_line k e = grind (arith, nat_tests, e)

    other_line : (k : IdKey) → (line_of (length lines) k == j) ≡ false → line_of (length lines) k ≢ j
    other_line k e = λ same. (let no = same in grind (arith, nat_tests, e, no))

    old_line : (k : IdKey) → line_of (length lines) k ≡ j → line_for lines k ≡ l.numbers
    old_line k is = ap (λ (i : ℕ). numbers_of (slice_get lines i)) is ∙ ap numbers_of w.line

    was_open : (k : IdKey) (i : ℕ) → get_or (line_for (set lines j new) k) i 1 ≡ 0 → (b : Bool)
        → (line_of (length lines) k == j) ≡ b → get_or (line_for lines k) i 1 ≡ 0
    was_open k i z true e =
        let is = same_line k e in
        ap (λ (es : List ℕ). get_or es i 1) (old_line k is)
        ∙ zero_was l.numbers at i number w.some (ap (λ (es : List ℕ). get_or es i 1)
        (sym (line_set lines j new k within is)) ∙ z)
    was_open k i z false e = ap (λ (es : List ℕ). get_or es i 1) (sym (line_kept lines j new k (other_line k e))) ∙ z

    none_behind : rest p ≡ None
    none_behind = h.full p at (ap (λ (es : List ℕ). get_or es at 1) (old_line p refl)
        ∙ ends_with_zero l.numbers at w.ends) (let few = w.few in omega (arith, few))

    swap : (k : IdKey) (o : Option ℕ) (b : Bool) → is_key p k ≡ b
        → option_or (option_or o (cond b (Some (length ks)) None)) (rest k) ≡ option_or (option_or o (rest k))
        (cond b (Some (length ks)) None)
    swap k o true e =
        let none : rest k ≡ None = ap rest (sym (key_is p k e)) ∙ none_behind in
        ap (option_or (option_or o (Some (length ks)))) none
        ∙ (or_nothing (option_or o (Some (length ks)))
        ∙ ap (λ (x : Option ℕ). option_or x (Some (length ks))) (sym (ap (option_or o) none ∙ or_nothing o)))
    swap k o false e = ap (λ (x : Option ℕ). option_or x (rest k)) (or_nothing o)
        ∙ sym (or_nothing (option_or o (rest k)))

    is_new : (k : IdKey) → cond (names_key (ks ++ p ∷ []) k number) (Some (number % ROWS)) None ≡ cond (is_key p k)
        (Some (length ks)) None
    is_new k =
        ap (λ (b : Bool). cond b (Some (number % ROWS)) None)
        (names_new (ks ++ p ∷ []) p k number (length ks) w.tag w.row (last_row ks p))
        ∙ ap (λ (n : ℕ). cond (is_key p k) (Some n) None) w.row

    last : (k : IdKey) → option_or (first_row k ks) (cond (is_key p k) (Some (length ks)) None) ≡ first_row k
        (ks ++ p ∷ [])
    last k = ap (λ (b : Bool). option_or (first_row k ks) (cond b (Some (length ks)) None)) (is_key_sym p k)
        ∙ sym (first_row_more k ks p)

    differs : (k : IdKey) → line_of (length lines) k ≢ j → (b : Bool) → is_key p k ≡ b → is_key p k ≡ false
    differs k ne true e = absurd (ne (ap (line_of (length lines)) (sym (key_is p k e))))
    differs k ne false e = e

    found : (k : IdKey) (b : Bool) → (line_of (length lines) k == j) ≡ b
        → option_or (named_row (ks ++ p ∷ []) k (line_for (set lines j new) k)) (rest k) ≡ first_row k (ks ++ p ∷ [])
    found k true e =
        let is = same_line k e in
        ap (λ (es : List ℕ). option_or (named_row (ks ++ p ∷ []) k es) (rest k)) (line_set lines j new k within is)
        ∙ (ap (λ (o : Option ℕ). option_or o (rest k)) (named_with (length ks) (ks ++ p ∷ []) ks k l.numbers at number
        (agree_more ks p) l_named w.ends l_ended)
        ∙ (ap (λ (x : Option ℕ). option_or (option_or (named_row ks k l.numbers) x) (rest k)) (is_new k)
        ∙ (swap k (named_row ks k l.numbers) (is_key p k) refl
        ∙ (ap (λ (es : List ℕ). option_or (option_or (named_row ks k es) (rest k))
        (cond (is_key p k) (Some (length ks)) None)) (sym (old_line k is))
        ∙ (ap (λ (o : Option ℕ). option_or o (cond (is_key p k) (Some (length ks)) None)) (h.finds k) ∙ last k)))))
    found k false e =
        let ne = other_line k e in
        ap (λ (es : List ℕ). option_or (named_row (ks ++ p ∷ []) k es) (rest k)) (line_kept lines j new k ne)
        ∙ (ap (λ (o : Option ℕ). option_or o (rest k)) (named_same (length ks) (ks ++ p ∷ []) ks k (line_for lines k)
        (agree_more ks p) (line_named lines (length ks) k h.named))
        ∙ (h.finds k
        ∙ (sym (or_nothing (first_row k ks))
        ∙ (ap (λ (b : Bool). option_or (first_row k ks) (cond b (Some (length ks)) None))
        (sym (differs k ne (is_key p k) refl)) ∙ last k))))

-- ---- what a look at a line tells of the rows so far

so_many : (row : ℕ) (ks : List IdKey) → row ≤ length ks → length (take row ks) ≡ row
so_many row ks le = length-take-le row ks le

pub line_same : (lines : List Line) (rest : IdKey → Option ℕ) (ks : List IdKey) (row : ℕ) (key : IdKey)
    → row ≤ length ks → AreOfRows lines rest (take row ks) →
    named_row ks key (line_for lines key) ≡ named_row (take row ks) key (line_for lines key)
line_same lines rest ks row key le h =
    named_same row ks (take row ks) key (line_for lines key) (agree_take row ks)
    (line_named lines row key (subst (λ (n : ℕ). All (λ (l : Line). All (NamesBelow n) l.numbers) lines)
    (so_many row ks le) h.named))

pub found_is_first : (lines : List Line) (rest : IdKey → Option ℕ) (ks : List IdKey) (key : IdKey) (row : ℕ)
    → AreOfRows lines rest ks → named_row ks key (line_for lines key) ≡ Some row → Some row ≡ first_row key ks
found_is_first lines rest ks key row h e = sym (ap (λ (o : Option ℕ). option_or o (rest key)) e) ∙ h.finds key

pub behind_is_first : (lines : List Line) (rest : IdKey → Option ℕ) (ks : List IdKey) (key : IdKey)
    → AreOfRows lines rest ks → named_row ks key (line_for lines key) ≡ None → rest key ≡ first_row key ks
behind_is_first lines rest ks key h e = sym (ap (λ (o : Option ℕ). option_or o (rest key)) e) ∙ h.finds key

pub open_is_none : (lines : List Line) (rest : IdKey → Option ℕ) (ks : List IdKey) (key : IdKey) (at : ℕ)
    → AreOfRows lines rest ks → named_row ks key (line_for lines key) ≡ None → EndsAt (line_for lines key) at →
    length ks ≤ ROWS → None ≡ first_row key ks
open_is_none lines rest ks key at h e ends few =
    sym (h.full key at (ends_with_zero (line_for lines key) at ends) few) ∙ behind_is_first lines rest ks key h e

-- ---- one row more

pub noted_open : (lines : List Line) (rest : IdKey → Option ℕ) (ks : List IdKey) (p : IdKey) (at tag row number : ℕ)
    → AreOfRows lines rest ks → EndsAt (line_for lines p) at →
    number ≡ tag * ROWS + row → tag ≡ tag_of p → 1 ≤ tag → row ≡ length ks → row < ROWS
    → AreOfRows (with_number lines (line_of (length lines) p) at number) rest (ks ++ p ∷ [])
noted_open lines rest ks p at tag row number h ends is tagged some last few =
    by_line (slice_get lines (line_of (length lines) p)) refl ends
  where
    by_line : (l : Option Line) → slice_get lines (line_of (length lines) p) ≡ l → EndsAt (numbers_of l) at
        → AreOfRows (with_number lines (line_of (length lines) p) at number) rest (ks ++ p ∷ [])
    by_line None e z = absurd z
    by_line (Some l) e z =
        let quotient : number / ROWS ≡ tag = omega (arith, is, few) in
        let remainder : number % ROWS ≡ row = omega (arith, is, few) in
        subst (λ (o : Option Line). AreOfRows (set lines (line_of (length lines) p)
        (record { numbers = set (numbers_of o) at number })) rest (ks ++ p ∷ [])) (sym e)
        (noted_in_line lines rest ks p l at number h (record {
          line = e;
          ends = z;
          tag = quotient ∙ tagged;
          row = remainder ∙ last;
          some = λ zero. omega (arith, is, some, zero);
          few = omega (arith, last, few);
        }))

pub on_ok : {T E : Type 0} (r : Result T E) (P Q : Type 0) → (P → Q) → OnOk r P → OnOk r Q
on_ok (Ok x) P Q f h = f h
on_ok (Err x) P Q f h = tt

pub if_used : {E : Type 0} (r : Result Noted E) (a b : Bool) → a ≡ b → IfOk r (λ (noted : Noted). is_known noted ≡ a)
    → IfOk r (λ (noted : Noted). is_known noted ≡ b)
if_used (Ok x) a b e h = h ∙ e
if_used (Err x) a b e h = tt

-- ---- lines of zeros

pub zero_lines : (lines : List Line) (rest : IdKey → Option ℕ)
    → All (λ (l : Line). All (λ (d : ℕ). d ≡ 0) l.numbers) lines → ((k : IdKey) → rest k ≡ None)
    → AreOfRows lines rest []
zero_lines lines rest zeros none = record {
  named = λ k d lt. zeros_below 0 _ (zeros k d lt);
  ended = λ k d lt. zeros_end _ (zeros k d lt);
  full = λ k i z most. none k;
  finds = λ k. ap (λ (o : Option ℕ). option_or o (rest k))
      (none_named k (slice_get lines (line_of (length lines) k)) refl) ∙ none k;
}
  where
    none_named : (k : IdKey) (l : Option Line) → slice_get lines (line_of (length lines) k) ≡ l
        → named_row [] k (numbers_of l) ≡ None
    none_named k None e = refl
    none_named k (Some l) e = zeros_name_none [] k l.numbers
        (has_all (λ (m : Line). All (λ (d : ℕ). d ≡ 0) m.numbers) lines (line_of (length lines) k) l e zeros)

pub fresh_lines : (n k : ℕ) (old lines : List Line) (rest : IdKey → Option ℕ) → old ≡ [] → lines ≡ take n old
    ++ replicate k (record { numbers = replicate 16 0 }) → ((key : IdKey) → rest key ≡ None) → AreOfRows lines rest []
fresh_lines n k old lines rest none is empty =
    zero_lines lines rest
    (subst (All IsZero) (sym is)
    (All-append IsZero (take n old) (replicate k (record { numbers = replicate 16 0 }))
    (All-take IsZero n old (subst (All IsZero) (sym none) (λ i d lt. absurd (omega arith))))
    (All-replicate IsZero k (record { numbers = replicate 16 0 }) (All-replicate (λ (d : ℕ). d ≡ 0) 16 0 refl))))
    empty
  where
    IsZero : Line → Type 0
    IsZero l = All (λ (d : ℕ). d ≡ 0) l.numbers

-- ---- row by row

pub take_next : (ks : List IdKey) (row : ℕ) (key : IdKey) → slice_get ks row ≡ Some key → take row ks
    ++ key ∷ [] ≡ take (row + 1) ks
take_next ks row key e = rw add-one (at ks row e)
  where
    at : (ks : List IdKey) (row : ℕ) → slice_get ks row ≡ Some key → take row ks ++ key ∷ [] ≡ take (suc row) ks
    at [] row e = cc
    at (k ∷ ks) zero e = (let same : k ≡ key = cc in ap (λ (q : IdKey). q ∷ []) (sym same))
    at (k ∷ ks) (suc row) e = ap (λ (qs : List IdKey). k ∷ qs) (at ks row e)

pub has_row : (ks : List IdKey) (row : ℕ) → row < length ks → slice_get ks row ≡ None → ⊥
has_row [] row lt e = omega arith
has_row (k ∷ ks) zero lt e = cc
has_row (k ∷ ks) (suc row) lt e = has_row ks row (omega arith) e
