-- lists of orders in order of place
use Rattle.std.proofs.Common.{◌≡◌, ℕ, ◌<◌, ◌≤◌, ◌==◌, Bool, true, false, not, cond, List, [], ◌∷◌, map, Some, None, Contains, All, refl, sym, ap, ◌∙◌, subst, arith, inl, inr, ◌⊎◌}
use Rattle.std.specs.Ordering.{nat_cmp}
use Rattle.std.specs.declared.cmp.Ordering.TheVariants.{Less, Equal, Greater}
use Rattle.std.specs.List.{find}
use Rattle.std.specs.List.Sorted.{IsStrictlySortedBy}
use Rattle.std.proofs.lemmas.Cmp.{ranked}
use Rattle.std.proofs.lemmas.Bool.Decides.{nat_tests}
use Rattle.std.proofs.lemmas.Map.Keys.{sorted_head, sorted_tail}
use Rattle.std.proofs.lemmas.List.Elements.{All-from_recursion, All-contains, All-contains_itself, All-map, All-weaker, recursion_from_All}
use Rattle.spread_rules.specs.declared.order.Order.{Order}
use Rattle.spread_rules.specs.Clearing.{removed}
use Rattle.spread_rules_rulebook.proofs.lists.Membership.{not_in_nil, in_head, in_tail, in_cons_cases, in_map}
use Rattle.spread_books_rows.specs.Places.{Ascends}
use Rattle.spread_books_rows.proofs.places.ChangedAt.{changed, keys_kept}

pub is_so : (b : Bool) → (b ≡ true) ⊎ (b ≡ false)
is_so true = inl refl
is_so false = inr refl

abbrev pub places : List Order → List ℕ
places xs = map (λ o. o.place) xs

pub is_below : (a b : ℕ) → nat_cmp a b ≡ Less → a < b
is_below a b h = ranked a b Less (sym h)

pub cmp_below : (a b : ℕ) → a < b → nat_cmp a b ≡ Less
cmp_below a b h = grind (arith, nat_tests)

pub cmp_above : (a b : ℕ) → b < a → nat_cmp a b ≡ Greater
cmp_above a b h = grind (arith, nat_tests)

pub cmp_same : (a : ℕ) → nat_cmp a a ≡ Equal
cmp_same a = grind (arith, nat_tests)

-- the others stand behind the first
pub behind_first : (x : Order) (xs : List Order) (o : Order) → Ascends (x ∷ xs) → Contains xs o → x.place < o.place
behind_first x xs o s c =
    is_below x.place o.place (All-contains (λ (y : ℕ). nat_cmp x.place y ≡ Less) (places xs) o.place
    (All-from_recursion (λ (y : ℕ). nat_cmp x.place y ≡ Less) (places xs) (sorted_head nat_cmp x.place (places xs) s))
    (in_map (λ (p : Order). p.place) xs o c))

pub others_ascend : (x : Order) (xs : List Order) → Ascends (x ∷ xs) → Ascends xs
others_ascend x xs s = sorted_tail nat_cmp x.place (places xs) s

pub all_of : (P : Order → Type 0) (xs : List Order) → ((o : Order) → Contains xs o → P o) → All P xs
all_of P xs h = All-weaker (λ o. Contains xs o) P h xs (All-contains_itself xs)

above : (n : ℕ) (xs : List Order) → ((o : Order) → Contains xs o → n < o.place)
    → All (λ y. nat_cmp n y ≡ Less) (places xs)
above n xs h = All-map (λ (y : ℕ). nat_cmp n y ≡ Less) (λ (o : Order). o.place) xs
    (all_of (λ (o : Order). nat_cmp n o.place ≡ Less) xs (λ o c. cmp_below n o.place (h o c)))

pub ascends_cons : (x : Order) (xs : List Order) → ((o : Order) → Contains xs o → x.place < o.place) → Ascends xs
    → Ascends (x ∷ xs)
unfolding IsStrictlySortedBy
ascends_cons x xs h s = (recursion_from_All (λ (y : ℕ). nat_cmp x.place y ≡ Less) (places xs) (above x.place xs h), s)

-- no two have one place
pub one_at_a_place : (xs : List Order) (p o : Order) → Ascends xs → Contains xs p → Contains xs o → p.place ≡ o.place
    → p ≡ o
one_at_a_place [] p o s c d e = absurd (not_in_nil p c)
one_at_a_place (x ∷ xs) p o s c d e =
    elim (in_cons_cases x xs p c) [
      | inl h ↦ elim (in_cons_cases x xs o d) [
        | inl k ↦ sym h ∙ k
        | inr k ↦ let b = behind_first x xs o s k in let f = ap (λ (q : Order). q.place) h in absurd (omega arith)
      ]
      | inr h ↦ elim (in_cons_cases x xs o d) [
        | inl k ↦ let b = behind_first x xs p s h in let f = ap (λ (q : Order). q.place) k in absurd (omega arith)
        | inr k ↦ one_at_a_place xs p o (others_ascend x xs s) h k e
      ]
    ]

-- a place that no order has
pub removed_nobody : (xs : List Order) (place : ℕ) → ((o : Order) → Contains xs o → (o.place == place) ≡ false)
    → removed place xs ≡ xs
removed_nobody [] place h = refl
removed_nobody (x ∷ xs) place h = rw (h x (in_head x xs))
    (ap (λ (ys : List Order). x ∷ ys) (removed_nobody xs place (λ o c. h o (in_tail x xs o c))))

-- what is left after a removal stood in the list, at another place
pub from_removed : (place : ℕ) (xs : List Order) (o : Order) → Contains (removed place xs) o → Contains xs o
    × ((o.place == place) ≡ false)
from_removed place [] o c = absurd (not_in_nil o c)
from_removed place (x ∷ xs) o c =
    let at = λ (b : Bool). Contains (cond (not b) (x ∷ removed place xs) (removed place xs)) o in
    elim (is_so (x.place == place)) [
      | inl k ↦ let r = from_removed place xs o (subst at k c) in (in_tail x xs o r.0, r.1)
      | inr k ↦ elim (in_cons_cases x (removed place xs) o (subst at k c)) [
        | inl h ↦ (
          subst (λ (p : Order). Contains (x ∷ xs) p) h (in_head x xs),
          subst (λ (p : Order). (p.place == place) ≡ false) h k,
        )
        | inr h ↦ let r = from_removed place xs o h in (in_tail x xs o r.0, r.1)
      ]
    ]

-- and what stood at another place is left
pub in_removed : (place : ℕ) (xs : List Order) (o : Order) → Contains xs o → (o.place == place) ≡ false
    → Contains (removed place xs) o
in_removed place [] o c n = absurd (not_in_nil o c)
in_removed place (x ∷ xs) o c n =
    let at = λ (b : Bool). Contains (cond (not b) (x ∷ removed place xs) (removed place xs)) o in
    elim (in_cons_cases x xs o c) [
      | inl h ↦
          let k : (x.place == place) ≡ false = ap (λ (p : Order). p.place == place) h ∙ n in
          subst at (sym k) (subst (λ (p : Order). Contains (x ∷ removed place xs) p) h (in_head x (removed place xs)))
      | inr h ↦ elim (is_so (x.place == place)) [
        | inl k ↦ subst at (sym k) (in_removed place xs o h n)
        | inr k ↦ subst at (sym k) (in_tail x (removed place xs) o (in_removed place xs o h n))
      ]
    ]

-- ---- the first that passes a test
pub find_none : (test : Order → Bool) (xs : List Order) → ((o : Order) → Contains xs o → test o ≡ false)
    → find test xs ≡ None
find_none test [] h = refl
find_none test (x ∷ xs) h = rw (h x (in_head x xs)) (find_none test xs (λ o c. h o (in_tail x xs o c)))

pub find_first : (test : Order → Bool) (xs : List Order) (o : Order) → Ascends xs → Contains xs o → test o ≡ true
    → ((p : Order) → Contains xs p → test p ≡ true → o.place ≤ p.place) → find test xs ≡ Some o
find_first test [] o s c t h = absurd (not_in_nil o c)
find_first test (x ∷ xs) o s c t h =
    elim (in_cons_cases x xs o c) [
      | inl e ↦ let k : test x ≡ true = ap test e ∙ t in rw k (ap (λ (p : Order). Some p) e)
      | inr d ↦ elim (is_so (test x)) [
        | inl k ↦ let b = behind_first x xs o s d in let l = h x (in_head x xs) k in absurd (omega arith)
        | inr k ↦ rw k (find_first test xs o (others_ascend x xs s) d t (λ p q u. h p (in_tail x xs p q) u))
      ]
    ]

-- no order passes a test by which none is found
pub unfound_by : (test : Order → Bool) (xs : List Order) → find test xs ≡ None → (o : Order) → Contains xs o
    → test o ≡ false
unfound_by test [] h o c = absurd (not_in_nil o c)
unfound_by test (x ∷ xs) h o c =
    elim (is_so (test x)) [
      | inl k ↦ let g = rw k at h in cc
      | inr k ↦ elim (in_cons_cases x xs o c) [
        | inl e ↦ subst (λ (p : Order). test p ≡ false) e k
        | inr d ↦ unfound_by test xs (rw k at h) o d
      ]
    ]

-- a place that no order of the list has
pub unfound : (xs : List Order) (place : ℕ) → find (λ o. o.place == place) xs ≡ None → (o : Order) → Contains xs o
    → (o.place == place) ≡ false
unfound xs place h o c = unfound_by (λ (p : Order). p.place == place) xs h o c

-- what is found at a place is the order of that place
pub at_place : (xs : List Order) (place : ℕ) (o : Order) → find (λ p. p.place == place) xs ≡ Some o → Contains xs o
    × (o.place ≡ place)
at_place [] place o e = cc
at_place (x ∷ xs) place o e =
    elim (is_so (x.place == place)) [
      | inl k ↦ let f : x ≡ o = let g = rw k at e in cc in (
        subst (λ (p : Order). Contains (x ∷ xs) p) f (in_head x xs),
        subst (λ (p : Order). p.place ≡ place) f (grind (arith, nat_tests, k)),
      )
      | inr k ↦ let r = at_place xs place o (rw k at e) in (in_tail x xs o r.0, r.1)
    ]

-- one that rests is found
pub is_found : (xs : List Order) (o : Order) → Ascends xs → Contains xs o → find (λ p. p.place == o.place) xs ≡ Some o
is_found xs o s c =
    find_first (λ (p : Order). p.place == o.place) xs o s c (grind (arith, nat_tests))
    (λ p d t. grind (arith, nat_tests, t))

pub ascends_changed : (f : Order → Order) (keeps : (o : Order) → (f o).place ≡ o.place) (place : ℕ) (xs : List Order)
    → Ascends xs → Ascends (changed f place xs)
ascends_changed f keeps place xs s = subst (λ (ps : List ℕ). IsStrictlySortedBy nat_cmp ps)
    (sym (keys_kept (λ (o : Order). o.place) f keeps place xs)) s
