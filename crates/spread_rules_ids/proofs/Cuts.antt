-- A text is cut at its first separator in one way.
use Rattle.std.proofs.Common.{◌≡◌, ◌≢◌, ℕ, suc, ◌<◌, List, [], ◌∷◌, ◌++◌, length, get_or, refl, arith}
use Rattle.spread_rules_ids.specs.Cut.{Lacks}

pub cut_once : (c : ℕ) (a b x y : List ℕ) → a ++ (c ∷ x) ≡ b ++ (c ∷ y) → Lacks c a → Lacks c b → (a ≡ b) × (x ≡ y)
cut_once c [] [] x y e p q = (refl, cc)
cut_once c [] (b ∷ bs) x y e p q = let h : b ≡ c = cc in absurd (q.0 h)
cut_once c (a ∷ ax) [] x y e p q = let h : a ≡ c = cc in absurd (p.0 h)
cut_once c (a ∷ ax) (b ∷ bs) x y e p q =
    let h : a ≡ b = cc in
    let t : ax ++ (c ∷ x) ≡ bs ++ (c ∷ y) = cc in
    let r = cut_once c ax bs x y t p.1 q.1 in
    let one : a ∷ ax ≡ b ∷ bs = let r0 = r.0 in cc in
    (one, r.1)

pub not_lacking : (c : ℕ) (a x : List ℕ) → Lacks c (a ++ (c ∷ x)) → ⊥
not_lacking c [] x h = h.0 refl
not_lacking c (a ∷ ax) x h = not_lacking c ax x h.1

pub Lacks-from_index : (c : ℕ) (xs : List ℕ) → ((i : ℕ) → i < length xs → get_or xs i 0 ≢ c) → Lacks c xs
Lacks-from_index c [] h = tt
Lacks-from_index c (x ∷ xs) h = (h 0 (omega arith), Lacks-from_index c xs (λ i lt. h (suc i) (omega arith)))

pub Lacks-append : (c : ℕ) (a b : List ℕ) → Lacks c a → Lacks c b → Lacks c (a ++ b)
Lacks-append c [] b p q = q
Lacks-append c (x ∷ xs) b p q = (p.0, Lacks-append c xs b p.1 q)
