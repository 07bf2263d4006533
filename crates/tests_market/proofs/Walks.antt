-- orders of a book that are walked to
use Rattle.std.proofs.Common.{◌≡◌, ◌<◌, ◌+◌, ℕ, zero, suc, List, [], ◌∷◌, ◌==◌, length, take, get_or, All, Some, Contains, inl, inr, subst, arith}
use Rattle.std.specs.Prelude.{slice_get}
use Rattle.std.proofs.lemmas.List.Elements.{All-more}
use Rattle.std.proofs.lemmas.Bool.Decides.{nat_tests}
use Rattle.std.proofs.lemmas.Option.{slice_get-get_or}
use Rattle.spread_rules.specs.declared.order.Order.{Order}
use Rattle.spread_rules_rulebook.proofs.lists.Membership.{in_head, in_tail}
use Rattle.spread_books_rows.proofs.places.Ascending.{is_so}

pub one_more : (P : Order → Type 0) (xs : List Order) (n : ℕ) → n < length xs → All P (take n xs)
    → ((o : Order) → slice_get xs n ≡ Some o → P o) → All P (take (n + 1) xs)
one_more P [] n lt h each = absurd (omega arith)
one_more P (x ∷ xs) n lt h each = All-more P (x ∷ xs) n x lt h
    (each (get_or (x ∷ xs) n x) (slice_get-get_or (x ∷ xs) n x lt))

pub walked : (xs : List Order) (n : ℕ) (o : Order) → slice_get xs n ≡ Some o → Contains xs o
walked [] n o e = cc
walked (x ∷ xs) zero o e = let same : x ≡ o = cc in subst (λ (p : Order). Contains (x ∷ xs) p) same (in_head x xs)
walked (x ∷ xs) (suc n) o e = in_tail x xs o (walked xs n o e)

pub within : (xs : List Order) (n : ℕ) (o : Order) → slice_get xs n ≡ Some o → n < length xs
within [] n o e = cc
within (x ∷ xs) zero o e = omega arith
within (x ∷ xs) (suc n) o e = let w = within xs n o e in omega (arith, w)

-- where no other order has its place, what holds of one holds of each at that place
pub each_there : (P : Order → Type 0) (xs : List Order) (n place : ℕ) (order : Order) → slice_get xs n ≡ Some order
    → P order → ((o : Order) (m : ℕ) → slice_get xs m ≡ Some o → o.place ≡ place → m ≡ n)
    → All (λ o. o.place ≡ place → P o) xs
each_there P xs n place order at p alone k d lt same =
    let got = slice_get-get_or xs k d lt in
    let here = subst (λ (i : ℕ). slice_get xs i ≡ Some (get_or xs k d)) (alone (get_or xs k d) k got same) got in
    let one : order ≡ get_or xs k d = cc in
    subst P one p

-- what holds below a number and of it
pub below_next : (P : ℕ → Type 0) (m k : ℕ) → ((j : ℕ) → j < m → P j) → P m → k < m + 1 → P k
below_next P m k h p lt =
    elim (is_so (k == m)) [
      | inl e ↦ let same : m ≡ k = grind (arith, nat_tests, e) in subst P same p
      | inr e ↦ let other : k < m = grind (arith, nat_tests, e, lt) in h k other
    ]
