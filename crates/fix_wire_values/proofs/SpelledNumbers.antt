-- Digits read one after another.
use Rattle.std.proofs.Common.{◌≡◌, ℕ, zero, suc, lit<, ◌+◌, ◌-◌, ◌*◌, ◌<◌, ◌≤◌, ◌^◌, true, List, [], ◌∷◌, ◌++◌, refl, take, length, get_or, ap, ◌∙◌, arith}
use Rattle.std.proofs.lemmas.List.{take_more}
use Rattle.std.specs.Char.{is_ascii_digit}
use Rattle.std.specs.List.{list_all}
use Rattle.std.proofs.lemmas.Bool.Decides.{nat_tests}
use Rattle.std.proofs.lemmas.Bool.{and_parts}
use Rattle.std.proofs.Math.Nat.{pow-suc}
use Rattle.fix_wire_values.specs.Digits.{number_of}
use Rattle.fix_wire_values.specs.code.Digits.{number_after}

pub number_after_push : (n : ℕ) (ds : List ℕ) (d : ℕ)
    → number_after n (ds ++ d ∷ []) ≡ 10 * number_after n ds + (d - 48)
number_after_push n [] d = refl
number_after_push n (x ∷ ds) d = number_after_push (10 * n + (x - 48)) ds d

pub number_of_more : (xs : List ℕ) (i : ℕ) → i < length xs
    → number_of (take (i + 1) xs) ≡ 10 * number_of (take i xs) + (get_or xs i 0 - 48)
number_of_more xs i h = ap number_of (take_more xs i 0 h) ∙ number_after_push 0 (take i xs) (get_or xs i 0)

digit_below : (d : ℕ) → is_ascii_digit d ≡ true → d - 48 ≤ 9
digit_below d h = grind (arith, nat_tests)

step_below : (n e p : ℕ) → e ≤ 9 → (10 * n + e + 1) * p ≤ (n + 1) * (p * 10)
step_below n e p h = grind arith

ten_pos : (k : ℕ) → 0 < 10 ^ k
ten_pos zero = lit< tt
ten_pos (suc k) = rw (pow-suc 10 k) (omega (arith, ten_pos k))

none_below : (n p : ℕ) → 0 < p → n < (n + 1) * p
none_below n p h = grind arith

pub number_after_below : (n : ℕ) (ds : List ℕ) (k : ℕ) → length ds ≤ k → list_all is_ascii_digit ds ≡ true
    → number_after n ds < (n + 1) * 10 ^ k
number_after_below n [] k l h = none_below n (10 ^ k) (ten_pos k)
number_after_below n (d ∷ ds) zero l h = absurd (omega arith)
number_after_below n (d ∷ ds) (suc k) l h =
    let parts = and_parts (is_ascii_digit d) (list_all is_ascii_digit ds) h in
    let e = digit_below d parts.0 in
    let rest = number_after_below (10 * n + (d - 48)) ds k (omega arith) parts.1 in
    let step = step_below n (d - 48) (10 ^ k) e in
    rw (pow-suc 10 k) (omega (arith, rest, step))

-- nine digits spell a number below a thousand million
pub nine_digits : (ds : List ℕ) → length ds ≤ 9 → list_all is_ascii_digit ds ≡ true → number_of ds < 1000000000
nine_digits ds l h = let b : number_of ds < (0 + 1) * 10 ^ 9 = number_after_below 0 ds 9 l h in omega (arith, b)
