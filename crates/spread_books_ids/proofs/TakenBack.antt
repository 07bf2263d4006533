-- a number that was put in a line, or behind the lines, and is taken back
use Rattle.std.proofs.Common.{◌≡◌, ℕ, zero, suc, ◌≤◌, Bool, true, false, cond, List, [], ◌∷◌, length, set, Option, Some, None, Result, Ok, Err, IfOk, refl, ap, ◌∙◌, sym, subst, arith}
use Rattle.std.specs.Prelude.{slice_get}
use Rattle.std.specs.Option.{option_or}
use Rattle.std.proofs.lemmas.List.{set-get_or}
use Rattle.std.proofs.lemmas.Option.{get_or_from_slice_get, slice_get_within}
use Rattle.spread_rules_ids.specs.declared.id_key.IdKey.{IdKey}
use Rattle.spread_books_ids.specs.declared.id_table.Line.{Line}
use Rattle.spread_books_ids.specs.declared.id_table.Noted.{Noted}
use Rattle.spread_books_ids.specs.Ids.{is_key}
use Rattle.spread_books_ids.specs.Tables.{AreOfRows, numbers_of, named_row, line_for}
use Rattle.spread_books_ids.specs.Notes.{lines_before, rest_before}
use Rattle.spread_books_ids.specs.code.Seeks.{EndsAt, with_number}
use Rattle.spread_books_ids.proofs.Keys.{key_is, put_twice}
use Rattle.spread_books_ids.proofs.Tables.{set_same}

-- ---- lists

pub set_past : {X : Type 0} (xs : List X) (i : ℕ) (x : X) → length xs ≤ i → set xs i x ≡ xs
set_past [] i x h = refl
set_past (y ∷ xs) zero x h = absurd (omega arith)
set_past {X} (y ∷ xs) (suc i) x h = ap (λ (zs : List X). y ∷ zs) (set_past xs i x (omega arith))

pub set_again : {X : Type 0} (xs : List X) (i : ℕ) (x : X) → slice_get xs i ≡ Some x → set xs i x ≡ xs
set_again xs i x e = ap (set xs i) (sym (get_or_from_slice_get xs i x x e)) ∙ set-get_or xs i x

set_twice : {X : Type 0} (xs : List X) (i : ℕ) (x y : X) → set (set xs i x) i y ≡ set xs i y
set_twice [] i x y = refl
set_twice (z ∷ xs) zero x y = refl
set_twice {X} (z ∷ xs) (suc i) x y = ap (λ (zs : List X). z ∷ zs) (set_twice xs i x y)

ended_with : (es : List ℕ) (at : ℕ) → EndsAt es at → slice_get es at ≡ Some 0
ended_with [] at h = absurd h
ended_with (e ∷ es) zero h = ap Some h
ended_with (e ∷ es) (suc at) h = ended_with es at h.1

-- ---- a number of a line

line_cleared : (lines : List Line) (line at number : ℕ) (l : Line) → slice_get lines line ≡ Some l → EndsAt l.numbers at
    → with_number (with_number lines line at number) line at 0 ≡ lines
line_cleared lines line at number l e ends =
    let put : Line = record { numbers = set l.numbers at number } in
    let first : with_number lines line at number ≡ set lines line put =
    ap (λ (o : Option Line). set lines line (record { numbers = set (numbers_of o) at number })) e in
    let there : slice_get (set lines line put) line ≡ Some put =
    set_same lines line put (slice_get_within lines line l e) in
    ap (λ (ls : List Line). with_number ls line at 0) first
    ∙ (ap (λ (o : Option Line). set (set lines line put) line (record { numbers = set (numbers_of o) at 0 })) there
    ∙ (ap (λ (es : List ℕ). set (set lines line put) line (record { numbers = es }))
    (set_twice l.numbers at number 0 ∙ set_again l.numbers at 0 (ended_with l.numbers at ends))
    ∙ (set_twice lines line put l ∙ set_again lines line l e)))

pub number_cleared : (lines : List Line) (line at number : ℕ) → EndsAt (numbers_of (slice_get lines line)) at
    → with_number (with_number lines line at number) line at 0 ≡ lines
number_cleared lines line at number ends = by_line (slice_get lines line) refl ends
  where
    by_line : (o : Option Line) → slice_get lines line ≡ o → EndsAt (numbers_of o) at
        → with_number (with_number lines line at number) line at 0 ≡ lines
    by_line None e h = absurd h
    by_line (Some l) e h = line_cleared lines line at number l e h

-- a line that is another than there is
pub no_line : (lines : List Line) (line at : ℕ) → length lines ≤ line → lines ≡ with_number lines line at 0
no_line lines line at h = sym (set_past lines line _ h)

-- ---- behind the lines

-- a key that had a place, which is put back
pub put_back : (old mid new : IdKey → Option ℕ) (key : IdKey) (at earlier : ℕ) → Some earlier ≡ old key
    → ((q : IdKey) → mid q ≡ cond (is_key key q) (Some at) (old q))
    → ((q : IdKey) → new q ≡ cond (is_key key q) (Some earlier) (mid q)) → (q : IdKey) → new q ≡ old q
put_back old mid new key at earlier some put back q =
    back q
    ∙ (ap (λ (o : Option ℕ). cond (is_key key q) (Some earlier) o) (put q)
    ∙ (put_twice (is_key key q) (Some earlier) (Some at) (old q) ∙ by_test (is_key key q) refl))
  where
    by_test : (b : Bool) → is_key key q ≡ b → cond b (Some earlier) (old q) ≡ old q
    by_test true e = some ∙ ap old (key_is key q e)
    by_test false e = refl

-- a table of the same rows
pub rows_same : (lines : List Line) (old new : IdKey → Option ℕ) (ks : List IdKey) → ((q : IdKey) → new q ≡ old q)
    → AreOfRows lines old ks → AreOfRows lines new ks
rows_same lines old new ks same h = record {
  named = h.named;
  ended = h.ended;
  full = λ k i z most. same k ∙ h.full k i z most;
  finds = λ k. ap (option_or (named_row ks k (line_for lines k))) (same k) ∙ h.finds k;
}

pub can_take_back : {E : Type 0} (r : Result Noted E) (lines : List Line) (old new : IdKey → Option ℕ) (key : IdKey)
    (ks : List IdKey) → AreOfRows lines old ks →
    IfOk r (λ (noted : Noted). (ls : List Line) → lines_before noted ls ≡ ls)
    → IfOk r (λ (noted : Noted). (q : IdKey) → rest_before noted key new q ≡ old q) →
    IfOk r (λ (noted : Noted). AreOfRows (lines_before noted lines) (rest_before noted key new) ks)
can_take_back (Ok noted) lines old new key ks h same rest =
    subst (λ (ls : List Line). AreOfRows ls (rest_before noted key new) ks) (sym (same lines))
    (rows_same lines old (rest_before noted key new) ks rest h)
can_take_back (Err e) lines old new key ks h same rest = tt
