-- rows of orders in order of place, and those that rest
use Rattle.std.proofs.Common.{◌≡◌, nat_lt, ℕ, zero, suc, ◌==◌, ◌<◌, ◌≤◌, ◌-◌, ◌+◌, Bool, true, false, cond, List, [], ◌∷◌, ◌++◌, filter, drop, length, get_or, set, Some, None, Contains, All, refl, ap, ◌∙◌, subst, sym, arith, inl, inr}
use native.Mathlib.Numerals.{unary_clauses}
use Rattle.std.proofs.lemmas.Bool.Decides.{nat_tests}
use Rattle.std.proofs.lemmas.List.Elements.{All-nil, All-head, All-tail, All-contains, All-filter, All-cons, All-set}
use Rattle.std.specs.Prelude.{◌≢◌, slice_get}
use Rattle.std.specs.List.{find}
use Rattle.std.specs.List.Sorted.{IsStrictlySortedBy}
use Rattle.spread_books_rows.proofs.RisingRows.{not_later}
use Rattle.spread_rules.specs.declared.order.Order.{Order}
use Rattle.spread_rules.specs.Clearing.{removed}
use Rattle.spread_rules_rulebook.proofs.lists.Membership.{not_in_nil, in_head, in_tail, in_cons_cases}
use Rattle.spread_books_rows.specs.declared.row.Row.{Row}
use Rattle.spread_books_rows.specs.Places.{Ascends, HasPlace, HasMore}
use Rattle.spread_books_rows.specs.code.Rows.{live, Rises}
use Rattle.spread_books_rows.proofs.places.ChangedAt.{changed, changed_nobody}
use Rattle.spread_books_rows.proofs.places.Ascending.{is_so, removed_nobody, find_none, ascends_cons, unfound}

-- ---- which orders rest

pub from_live : (rs : List Row) (o : Order) → Contains (live rs) o → (r : Row) × Contains rs r × (r.rests ≡ true)
    × (r.order ≡ o)
from_live [] o c = absurd (not_in_nil o c)
from_live (r ∷ rs) o c =
    elim (is_so r.rests) [
      | inl k ↦ let d : Contains (r.order ∷ live rs) o = rw k at c in
          elim (in_cons_cases r.order (live rs) o d) [
            | inl e ↦ (r, in_head r rs, k, e)
            | inr f ↦ let m = from_live rs o f in (m.0, in_tail r rs m.0 m.1, m.2, m.3)
          ]
      | inr k ↦ let d : Contains (live rs) o = rw k at c in let m = from_live rs o d in
          (m.0, in_tail r rs m.0 m.1, m.2, m.3)
    ]

-- all rows rise above the first
pub above_first : (r : Row) (rs : List Row) (o : Order) → Rises (r ∷ rs) → Contains (live rs) o
    → r.order.place < o.place
above_first r rs o h c =
    let m = from_live rs o c in
    let l : r.order.place < m.0.order.place = All-contains (λ (t : Row). r.order.place < t.order.place) rs m.0 h.0 m.1
    in
    subst (λ (p : Order). r.order.place < p.place) m.3 l

pub ascends_live : (rs : List Row) → Rises rs → Ascends (live rs)
unfolding IsStrictlySortedBy
ascends_live [] h = tt
ascends_live (r ∷ rs) h =
    let at = λ (b : Bool). Ascends (cond b (r.order ∷ live rs) (live rs)) in
    elim (is_so r.rests) [
      | inl k ↦ subst at (sym k) (ascends_cons r.order (live rs) (λ o c. above_first r rs o h c) (ascends_live rs h.1))
      | inr k ↦ subst at (sym k) (ascends_live rs h.1)
    ]

-- ---- one row more

pub live_push : (rs : List Row) (o : Order) → live (rs ++ record { order = o; rests = true } ∷ []) ≡ live rs ++ o ∷ []
live_push [] o = refl
live_push (r ∷ rs) o =
    elim (is_so r.rests) [
      | inl k ↦ rw k (ap (λ (xs : List Order). r.order ∷ xs) (live_push rs o))
      | inr k ↦ rw k (live_push rs o)
    ]

-- ---- those that rest alone

pub live_kept : (rs : List Row) → live (filter (λ r. r.rests) rs) ≡ live rs
live_kept [] = refl
live_kept (r ∷ rs) =
    elim (is_so r.rests) [
      | inl k ↦ rw k (ap (λ (xs : List Order). r.order ∷ xs) (live_kept rs))
      | inr k ↦ rw k (live_kept rs)
    ]

pub rises_kept : (rs : List Row) → Rises rs → Rises (filter (λ r. r.rests) rs)
rises_kept [] h = tt
rises_kept (r ∷ rs) h =
    let at = λ (b : Bool). Rises (cond b (r ∷ filter (λ (t : Row). t.rests) rs) (filter (λ (t : Row). t.rests) rs)) in
    elim (is_so r.rests) [
      | inl k ↦ subst at (sym k) (
        All-filter (λ (t : Row). t.rests) (λ (t : Row). r.order.place < t.order.place) rs h.0,
        rises_kept rs h.1,
      )
      | inr k ↦ subst at (sym k) (rises_kept rs h.1)
    ]

-- all that rest are below where all rows rest
pub below_rows : (rs : List Row) (place : ℕ) → All (λ r. r.rests ≡ true) rs → All (λ o. o.place < place) (live rs)
    → All (λ r. r.order.place < place) rs
below_rows [] place a b = All-nil (λ (r : Row). r.order.place < place)
below_rows (r ∷ rs) place a b =
    let k = All-head (λ (t : Row). t.rests ≡ true) r rs a in
    let c : All (λ (o : Order). o.place < place) (r.order ∷ live rs) =
    subst (λ (x : Bool). All (λ (o : Order). o.place < place) (cond x (r.order ∷ live rs) (live rs))) k b in
    All-cons (λ (t : Row). t.order.place < place) r rs (All-head (λ (o : Order). o.place < place) r.order (live rs) c)
    (below_rows rs place (All-tail (λ (t : Row). t.rests ≡ true) r rs a)
    (All-tail (λ (o : Order). o.place < place) r.order (live rs) c))

pub live_within : (rs : List Row) → length (live rs) ≤ length rs
live_within [] = omega arith
live_within (r ∷ rs) =
    let m = live_within rs in
    elim (is_so r.rests) [ inl k ↦ rw k (omega (arith, m)) | inr k ↦ rw k (omega (arith, m)) ]

-- ---- one row changed

same_test : (p : ℕ) → (p == p) ≡ true
same_test p = grind (arith, nat_tests)

below_test : (p q : ℕ) → p < q → (p == q) ≡ false
below_test p q h = grind (arith, nat_tests, h)

above_test : (p q : ℕ) → p < q → (q == p) ≡ false
above_test p q h = grind (arith, nat_tests, h)

pub rises_set : (rs : List Row) (i : ℕ) (d q : Row) → Rises rs → i < length rs
    → q.order.place ≡ (get_or rs i d).order.place → Rises (set rs i q)
rises_set [] i d q h lt e = absurd (omega arith)
rises_set (r ∷ rs) zero d q h lt e = (subst (λ (p : ℕ). All (λ (t : Row). p < t.order.place) rs) (sym e) h.0, h.1)
rises_set (r ∷ rs) (suc i) d q h lt e =
    let own : r.order.place < q.order.place = subst (λ (p : ℕ). r.order.place < p) (sym e) (h.0 i d (omega arith)) in
    (All-set (λ (t : Row). r.order.place < t.order.place) rs i q own h.0, rises_set rs i d q h.1 (omega arith) e)

pub live_left : (rs : List Row) (i : ℕ) (d : Row) → Rises rs → i < length rs
    → live (set rs i (record (get_or rs i d) { rests = false })) ≡ removed (get_or rs i d).order.place (live rs)
live_left [] i d h lt = absurd (omega arith)
live_left (r ∷ rs) zero d h lt =
    let rest = sym (removed_nobody (live rs) r.order.place
    (λ o c. above_test r.order.place o.place (above_first r rs o h c))) in
    elim (is_so r.rests) [ inl k ↦ rw (k, same_test r.order.place) rest | inr k ↦ rw k rest ]
live_left (r ∷ rs) (suc i) d h lt =
    let rest = live_left rs i d h.1 (omega arith) in
    let other = below_test r.order.place (get_or rs i d).order.place (h.0 i d (omega arith)) in
    elim (is_so r.rests) [ inl k ↦ rw (k, other) (ap (λ (xs : List Order). r.order ∷ xs) rest) | inr k ↦ rw k rest ]

abbrev pub changed_row : (Order → Order) → Row → Row
changed_row f r = record r { order = f r.order }

pub live_changed : (f : Order → Order) (rs : List Row) (i : ℕ) (d : Row) → Rises rs → i < length rs
    → (get_or rs i d).rests ≡ true → live (set rs i (changed_row f (get_or rs i d))) ≡ changed f
    (get_or rs i d).order.place (live rs)
live_changed f [] i d h lt k = absurd (omega arith)
live_changed f (r ∷ rs) zero d h lt k =
    let rest = sym (changed_nobody f (live rs) r.order.place
    (λ o c. above_test r.order.place o.place (above_first r rs o h c))) in
    rw (k, same_test r.order.place) (ap (λ (xs : List Order). f r.order ∷ xs) rest)
live_changed f (r ∷ rs) (suc i) d h lt k =
    let rest = live_changed f rs i d h.1 (omega arith) k in
    let other = below_test r.order.place (get_or rs i d).order.place (h.0 i d (omega arith)) in
    elim (is_so r.rests) [ inl l ↦ rw (l, other) (ap (λ (xs : List Order). r.order ∷ xs) rest) | inr l ↦ rw l rest ]

pub in_live : (rs : List Row) (i : ℕ) (d : Row) → i < length rs → (get_or rs i d).rests ≡ true
    → Contains (live rs) (get_or rs i d).order
in_live [] i d lt k = absurd (omega arith)
in_live (r ∷ rs) zero d lt k = rw k (in_head r.order (live rs))
in_live (r ∷ rs) (suc i) d lt k =
    let rest = in_live rs i d (omega arith) k in
    elim (is_so r.rests) [ inl l ↦ rw l (in_tail r.order (live rs) (get_or rs i d).order rest) | inr l ↦ rw l rest ]

pub found_in_row : (rs : List Row) (i : ℕ) (d : Row) → Rises rs → i < length rs
    → find (λ o. o.place == (get_or rs i d).order.place) (live rs) ≡ cond (get_or rs i d).rests
    (Some (get_or rs i d).order) None
found_in_row [] i d h lt = absurd (omega arith)
found_in_row (r ∷ rs) zero d h lt =
    elim (is_so r.rests) [
      | inl k ↦ rw (k, same_test r.order.place)
      | inr k ↦ rw k (find_none (λ (o : Order). o.place == r.order.place) (live rs)
          (λ o c. above_test r.order.place o.place (above_first r rs o h c)))
    ]
found_in_row (r ∷ rs) (suc i) d h lt =
    let rest = found_in_row rs i d h.1 (omega arith) in
    let other = below_test r.order.place (get_or rs i d).order.place (h.0 i d (omega arith)) in
    elim (is_so r.rests) [ inl k ↦ rw (k, other) rest | inr k ↦ rw k rest ]

pub found_nowhere : (rs : List Row) (place : ℕ) → All (λ r. r.order.place ≢ place) rs
    → find (λ o. o.place == place) (live rs) ≡ None
found_nowhere rs place h =
    find_none (λ (o : Order). o.place == place) (live rs) (λ o c.
    let m = from_live rs o c in
    let n : m.0.order.place ≢ place = All-contains (λ (r : Row). r.order.place ≢ place) rs m.0 h m.1 in
    let e = ap (λ (p : Order). p.place) m.3 in
    elim (is_so (o.place == place)) [ inl k ↦ absurd (n (grind (arith, nat_tests, k, e))) | inr k ↦ k ])

-- ---- by place

-- the rows from one on
pub live_next : (rs : List Row) (i : ℕ) (d : Row) → i < length rs
    → live (drop i rs) ≡ cond (get_or rs i d).rests ((get_or rs i d).order ∷ live (drop (i + 1) rs))
    (live (drop (i + 1) rs))
live_next [] i d lt = absurd (omega arith)
live_next (r ∷ rs) zero d lt = refl
live_next (r ∷ rs) (suc i) d lt = let e : drop (suc i + 1) (r ∷ rs) ≡ drop (i + 1) rs = simp unary_clauses refl in
    rw e (live_next rs i d (omega arith))

get_or_from : (rs : List Row) (i : ℕ) (r d : Row) → i < length rs → Some r ≡ slice_get rs i → r ≡ get_or rs i d
get_or_from [] i r d lt e = absurd (omega arith)
get_or_from (x ∷ rs) zero r d lt e = cc
get_or_from (x ∷ rs) (suc i) r d lt e = get_or_from rs i r d (omega arith) e

pub all_below_last : (rs : List Row) (last : Row) (place : ℕ) → Rises rs → Some last ≡ slice_get rs (length rs - 1)
    → nat_lt last.order.place place ≡ true → All (λ r. r.order.place < place) rs
all_below_last rs last place h e t k d lt =
    let within : length rs - 1 < length rs = omega (arith, lt) in
    let at : last ≡ get_or rs (length rs - 1) d = get_or_from rs (length rs - 1) last d within e in
    let l : last.order.place < place = grind (arith, nat_tests, t) in
    let m : (get_or rs k d).order.place ≤ (get_or rs (length rs - 1) d).order.place =
    not_later (λ (r : Row). r.order.place) rs k (length rs - 1) d h (omega (arith, lt)) within in
    let f = ap (λ (r : Row). r.order.place) at in
    omega (arith, m, l, f)

-- ---- what a method knows of its row

pub found : (rs : List Row) (xs : List Order) (i place : ℕ) (was : Row) → live rs ≡ xs → Rises rs → i < length rs
    → was ≡ get_or rs i was → (get_or rs i was).order.place ≡ place
    → find (λ o. o.place == place) xs ≡ cond was.rests (Some was.order) None
found rs xs i place was e h lt is at =
    let f = found_in_row rs i was h lt in
    let g : find (λ (o : Order). o.place == place) (live rs) ≡ cond (get_or rs i was).rests
    (Some (get_or rs i was).order) None = subst (λ (p : ℕ). find (λ (o : Order). o.place == p) (live rs) ≡ cond
    (get_or rs i was).rests (Some (get_or rs i was).order) None) at f in
    subst (λ (ys : List Order). find (λ (o : Order). o.place == place) ys ≡ cond was.rests (Some was.order) None) e
    (g ∙ sym (ap (λ (r : Row). cond r.rests (Some r.order) None) is))

pub missing : (xs : List Order) (place : ℕ) → find (λ o. o.place == place) xs ≡ None → HasPlace xs place → ⊥
missing xs place h p = let k = unfound xs place h p.order p.stands in let e = p.at in grind (arith, nat_tests, k, e)

pub has_place : (xs : List Order) (place by : ℕ) → HasMore xs place by → HasPlace xs place
has_place xs place by h = record { order = h.order; stands = h.stands; at = h.at }

pub shorter : (rs : List Row) (i : ℕ) (d : Row) → i < length rs → (get_or rs i d).rests ≡ true
    → length (live (set rs i (record (get_or rs i d) { rests = false }))) + 1 ≡ length (live rs)
shorter [] i d lt k = absurd (omega arith)
shorter (r ∷ rs) zero d lt k = rw k (omega arith)
shorter (r ∷ rs) (suc i) d lt k =
    let m = shorter rs i d (omega arith) k in
    elim (is_so r.rests) [ inl l ↦ rw l (omega (arith, m)) | inr l ↦ rw l m ]

pub as_long : (f : Order → Order) (rs : List Row) (i : ℕ) (d : Row) → i < length rs
    → length (live (set rs i (changed_row f (get_or rs i d)))) ≡ length (live rs)
as_long f [] i d lt = absurd (omega arith)
as_long f (r ∷ rs) zero d lt = elim (is_so r.rests) [ inl l ↦ rw l | inr l ↦ rw l ]
as_long f (r ∷ rs) (suc i) d lt =
    let m = as_long f rs i d (omega arith) in
    elim (is_so r.rests) [ inl l ↦ rw l (omega (arith, m)) | inr l ↦ rw l m ]

pub more_left : (rs : List Row) (xs : List Order) (i place by : ℕ) (was : Row) → live rs ≡ xs → i < length rs
    → was ≡ get_or rs i was → (get_or rs i was).order.place ≡ place → was.rests ≡ true → HasMore xs place by
    → by < was.order.leaves
more_left rs xs i place by was e lt is at k h =
    let c : Contains (live rs) (get_or rs i was).order = in_live rs i was lt (sym (ap (λ (r : Row). r.rests) is) ∙ k) in
    let d : Contains xs was.order = subst (λ (o : Order). Contains xs o) (sym (ap (λ (r : Row). r.order) is))
    (subst (λ (ys : List Order). Contains ys (get_or rs i was).order) e c) in
    let p : was.order.place ≡ place = ap (λ (r : Row). r.order.place) is ∙ at in
    All-contains (λ (o : Order). o.place ≡ place → by < o.leaves) xs was.order h.each d p

pub same_row : (rs : List Row) (i : ℕ) (a b : Row) → i < length rs → a ≡ get_or rs i a → b ≡ get_or rs i b → a ≡ b
same_row [] i a b lt e f = absurd (omega arith)
same_row (r ∷ rs) zero a b lt e f = e ∙ sym f
same_row (r ∷ rs) (suc i) a b lt e f = same_row rs i a b (omega arith) e f

-- a row whose order leaves
pub left_kept : (rs : List Row) (i count : ℕ) (was q : Row) → Rises rs → i < length rs → was ≡ get_or rs i was
    → q ≡ get_or rs i q → was.rests ≡ true → count ≡ length (live rs) →
    record {
      rises : Rises (set rs i (record q { rests = false }));
      count : count - 1 ≡ length (live (set rs i (record q { rests = false })));
      live : live (set rs i (record q { rests = false })) ≡ removed q.order.place (live rs);
    }
left_kept rs i count was q h lt e f k n =
    let rests : (get_or rs i q).rests ≡ true = sym (ap (λ (r : Row). r.rests) f)
    ∙ ap (λ (r : Row). r.rests) (same_row rs i q was lt f e) ∙ k in
    let m : length (live (set rs i (record q { rests = false }))) + 1 ≡ length (live rs) =
    subst (λ (r : Row). length (live (set rs i (record r { rests = false }))) + 1 ≡ length (live rs)) (sym f)
    (shorter rs i q lt rests) in
    record {
      rises = rises_set rs i q (record q { rests = false }) h lt (ap (λ (r : Row). r.order.place) f);
      count = omega (arith, m, n);
      live = subst (λ (r : Row). live (set rs i (record r { rests = false })) ≡ removed r.order.place (live rs)) (sym f)
          (live_left rs i q h lt);
    }

-- a row whose order is changed at its place
pub changed_kept : (f : Order → Order) → ((o : Order) → (f o).place ≡ o.place)
    → (rs : List Row) (i count : ℕ) (was q : Row) → Rises rs → i < length rs → was ≡ get_or rs i was → q ≡ get_or rs i q
    → was.rests ≡ true → count ≡ length (live rs) →
    record {
      rises : Rises (set rs i (changed_row f q));
      count : count ≡ length (live (set rs i (changed_row f q)));
      live : live (set rs i (changed_row f q)) ≡ changed f q.order.place (live rs);
    }
changed_kept f keeps rs i count was q h lt e g k n =
    let rests : (get_or rs i q).rests ≡ true = sym (ap (λ (r : Row). r.rests) g)
    ∙ ap (λ (r : Row). r.rests) (same_row rs i q was lt g e) ∙ k in
    let m : length (live (set rs i (changed_row f q))) ≡ length (live rs) =
    subst (λ (r : Row). length (live (set rs i (changed_row f r))) ≡ length (live rs)) (sym g) (as_long f rs i q lt)
    in
    record {
      rises = rises_set rs i q (changed_row f q) h lt (keeps q.order ∙ ap (λ (r : Row). r.order.place) g);
      count = n ∙ sym m;
      live = subst (λ (r : Row). live (set rs i (changed_row f r)) ≡ changed f r.order.place (live rs)) (sym g)
          (live_changed f rs i q h lt rests);
    }

pub longer : (rs : List Row) (o : Order) → length (live (rs ++ record { order = o; rests = true } ∷ [])) ≡ length
    (live rs) + 1
longer [] o = refl
longer (r ∷ rs) o =
    let m = longer rs o in
    elim (is_so r.rests) [ inl l ↦ rw l (omega (arith, m)) | inr l ↦ rw l m ]
