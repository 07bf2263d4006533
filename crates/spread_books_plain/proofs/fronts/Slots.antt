-- the items of a list in which one was set, and of one in which all are the same
use Rattle.std.proofs.Common.{◌≡◌, ℕ, zero, suc, List, [], ◌∷◌, replicate, Some, refl, ap, slice_set, slice_get}

pub get_set_same : {X : Type 0} (xs : List X) (n : ℕ) (x y : X) → slice_get (slice_set xs n x) n ≡ Some y → y ≡ x
get_set_same [] n x y h = cc
get_set_same (z ∷ xs) zero x y h = cc
get_set_same (z ∷ xs) (suc n) x y h = get_set_same xs n x y h

pub get_set_other : {X : Type 0} (xs : List X) (n m : ℕ) (x : X) → (n ≡ m → ⊥)
    → slice_get (slice_set xs n x) m ≡ slice_get xs m
get_set_other [] n m x h = refl
get_set_other (z ∷ xs) zero zero x h = absurd (h refl)
get_set_other (z ∷ xs) zero (suc m) x h = refl
get_set_other (z ∷ xs) (suc n) zero x h = refl
get_set_other (z ∷ xs) (suc n) (suc m) x h = get_set_other xs n m x (λ e. h (ap suc e))

pub get_replicate : {X : Type 0} (n k : ℕ) (x y : X) → slice_get (replicate n x) k ≡ Some y → y ≡ x
get_replicate zero k x y h = cc
get_replicate (suc n) zero x y h = cc
get_replicate (suc n) (suc k) x y h = get_replicate n k x y h
