-- A number of five digits as a fraction of 2 ^ 32: its digits come over the point one by one.
use Rattle.std.proofs.Common.{◌≡◌, ℕ, ◌+◌, ◌*◌, ◌/◌, ◌%◌, ◌<◌, ◌≤◌, ◌∷◌, [], ◌++◌, decimal, ap, ◌∙◌, arith}
use Rattle.std.proofs.lemmas.Fmt.{decimal_digit}
use Rattle.fix_wire_values.specs.Digits.{two_digits}
use Rattle.fix_wire_values.proofs.LastTwoDigits.{four_more}

over : (q a b : ℕ) → q < 10 → a < 100 → b < 100 → (10000 * q + 100 * a + b) * 429497 / 4294967296 ≡ q
over q a b hq ha hb = omega arith

behind : (q a b : ℕ) → q < 10 → a < 100 → b < 100 → (10000 * q + 100 * a + b) * 429497 % 4294967296 ≡ 2704 * q +
    42949700 * a + 429497 * b
behind q a b hq ha hb = omega arith

second_over : (q a b : ℕ) → q < 10 → a < 100 → b < 100 → (2704 * q + 42949700 * a + 429497 * b) * 100 / 4294967296 ≡ a
second_over q a b hq ha hb = omega arith

second_behind : (q a b : ℕ) → q < 10 → a < 100 → b < 100
    → (2704 * q + 42949700 * a + 429497 * b) * 100 % 4294967296 ≡ 270400 * q + 2704 * a + 42949700 * b
second_behind q a b hq ha hb = omega arith

third_over : (q a b : ℕ) → q < 10 → a < 100 → b < 100 → (270400 * q + 2704 * a + 42949700 * b) * 100 / 4294967296 ≡ b
third_over q a b hq ha hb = omega arith

parts : (n : ℕ) → n ≡ 10000 * (n / 10000) + 100 * (n / 100 % 100) + n % 100
parts n = grind arith

few : (n : ℕ) → n < 100000 → n / 10000 < 10
few n h = grind (arith, h)

small : (n : ℕ) → n % 100 < 100
small n = grind arith

pub first_is : (n : ℕ) → n < 100000 → n * 429497 / 4294967296 ≡ n / 10000
first_is n h = ap (λ k. k * 429497 / 4294967296) (parts n)
    ∙ over (n / 10000) (n / 100 % 100) (n % 100) (few n h) (small (n / 100)) (small n)

first_behind : (n : ℕ) → n < 100000 → n * 429497 % 4294967296 ≡ 2704 * (n / 10000) + 42949700 * (n / 100 % 100) + 429497
    * (n % 100)
first_behind n h = ap (λ k. k * 429497 % 4294967296) (parts n)
    ∙ behind (n / 10000) (n / 100 % 100) (n % 100) (few n h) (small (n / 100)) (small n)

pub second_is : (n : ℕ) → n < 100000 → n * 429497 % 4294967296 * 100 / 4294967296 ≡ n / 100 % 100
second_is n h = ap (λ k. k * 100 / 4294967296) (first_behind n h)
    ∙ second_over (n / 10000) (n / 100 % 100) (n % 100) (few n h) (small (n / 100)) (small n)

pub third_is : (n : ℕ) → n < 100000 → n * 429497 % 4294967296 * 100 % 4294967296 * 100 / 4294967296 ≡ n % 100
third_is n h =
    ap (λ k. k * 100 / 4294967296) (ap (λ k. k * 100 % 4294967296) (first_behind n h)
    ∙ second_behind (n / 10000) (n / 100 % 100) (n % 100) (few n h) (small (n / 100)) (small n))
    ∙ third_over (n / 10000) (n / 100 % 100) (n % 100) (few n h) (small (n / 100)) (small n)

tens : (n : ℕ) → n % 100 / 10 % 10 ≡ n / 10 % 10
tens n = grind arith

ones : (n : ℕ) → n % 100 % 10 ≡ n % 10
ones n = grind arith

pub same_two : (n : ℕ) → two_digits (n % 100) ≡ two_digits n
same_two n = ap (λ k. (48 + k) ∷ (48 + n % 100 % 10) ∷ []) (tens n)
    ∙ ap (λ k. (48 + n / 10 % 10) ∷ (48 + k) ∷ []) (ones n)

pub five_digits : (n : ℕ) → 10000 ≤ n → n < 100000 → decimal n ≡ ((48 + n / 10000) ∷ [] ++ two_digits (n / 100))
    ++ two_digits n
five_digits n l h =
    four_more n l (omega (arith, h))
    ∙ ap (λ t. (t ++ two_digits (n / 100)) ++ two_digits n) (decimal_digit (n / 10000) (few n h))
