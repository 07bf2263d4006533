-- The table of pairs has the two digits of each number below 100.
use Rattle.std.proofs.Common.{◌≡◌, ℕ, zero, suc, ◌+◌, ◌-◌, ◌*◌, ◌/◌, ◌%◌, ◌<◌, Bool, true, ◌&&◌, T, eqb, get_or, ap, ◌∙◌, inl, inr, arith, eq-zero-or-pos, eqb→eq}
use lib.Ieee.Fits.{and_l, and_r}
use Rattle.fix_wire_values.specs.declared.digits.TheConstants.{PAIRS}

abbrev are_pairs : ℕ → Bool
are_pairs zero = true
are_pairs (suc p) = (eqb (get_or PAIRS (p * 2) 0) (48 + p / 10) && eqb (get_or PAIRS (p * 2 + 1) 0) (48 + p % 10)) &&
    are_pairs p

below : (n p : ℕ) → T (are_pairs n) → p < n → (get_or PAIRS (p * 2) 0 ≡ 48 + p / 10)
    × (get_or PAIRS (p * 2 + 1) 0 ≡ 48 + p % 10)
below zero p t h = absurd (omega arith)
below (suc n) p t h =
    elim (eq-zero-or-pos (n - p)) [
      | inl z ↦ let e : p ≡ n = omega arith in let a = and_l _ (are_pairs n) t in
          rw e (eqb→eq _ _ (and_l _ _ a), eqb→eq _ _ (and_r _ _ a))
      | inr g ↦ below n p (and_r _ (are_pairs n) t) (omega arith)
    ]

pair_at : (p : ℕ) → p < 100 → (get_or PAIRS (p * 2) 0 ≡ 48 + p / 10) × (get_or PAIRS (p * 2 + 1) 0 ≡ 48 + p % 10)
pair_at p h = below 100 p tt h

tens_digit : (n : ℕ) → n % 100 / 10 ≡ n / 10 % 10
tens_digit n = grind arith

ones_digit : (n : ℕ) → n % 100 % 10 ≡ n % 10
ones_digit n = grind arith

small : (n : ℕ) → n % 100 < 100
small n = grind arith

pub tens_at : (n : ℕ) → get_or PAIRS (n % 100 * 2) 0 ≡ 48 + n / 10 % 10
tens_at n = (pair_at (n % 100) (small n)).0 ∙ ap (λ k. 48 + k) (tens_digit n)

pub ones_at : (n : ℕ) → get_or PAIRS (n % 100 * 2 + 1) 0 ≡ 48 + n % 10
ones_at n = (pair_at (n % 100) (small n)).1 ∙ ap (λ k. 48 + k) (ones_digit n)
