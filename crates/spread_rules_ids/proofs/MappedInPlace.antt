-- A list whose elements are mapped in place, one after another.
use Rattle.std.proofs.Common.{◌≡◌, ℕ, zero, suc, ◌+◌, ◌<◌, List, [], ◌∷◌, ◌++◌, length, map, take, drop, set, get_or, refl, ap, arith}

-- one more element is mapped in place
pub map_next : {X : Type 0} (f : X → X) (xs : List X) (i : ℕ) (d : X) → i < length xs
    → set (map f (take i xs) ++ drop i xs) i (f (get_or xs i d)) ≡ map f (take (i + 1) xs) ++ drop (i + 1) xs
map_next f [] i d h = absurd (omega arith)
map_next f (x ∷ xs) zero d h = refl
map_next {X} f (x ∷ xs) (suc i) d h = let e : (i + 1 ≡ suc i) = omega arith in let k : (suc i + 1 ≡ suc (suc i)) =
    omega arith in rw k (ap (λ (ys : List X). f x ∷ ys) (rw e at (map_next f xs i d (omega arith))))

-- and those from there on are as they were
pub map_rest : {X : Type 0} (f : X → X) (xs : List X) (i : ℕ) (d : X) → i < length xs
    → get_or (map f (take i xs) ++ drop i xs) i d ≡ get_or xs i d
map_rest f [] i d h = absurd (omega arith)
map_rest f (x ∷ xs) zero d h = refl
map_rest f (x ∷ xs) (suc i) d h = map_rest f xs i d (omega arith)
