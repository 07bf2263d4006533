-- A number by its last two digits and those before.
use Rattle.std.proofs.Common.{◌≡◌, ℕ, ◌/◌, ◌%◌, ◌+◌, ◌<◌, ◌≤◌, ◌^◌, [], ◌∷◌, ◌++◌, decimal, ap, ◌∙◌, arith, append_assoc}
use Rattle.std.proofs.lemmas.Fmt.{decimal_step, decimal_digit}
use Rattle.fix_wire_values.specs.Digits.{two_digits}

tenth_small : (n : ℕ) → n < 2 ^ 64 → n / 10 < 2 ^ 64
tenth_small n h = grind arith

tenth_some : (n : ℕ) → 100 ≤ n → 10 ≤ n / 10
tenth_some n l = grind arith

tenths : (n : ℕ) → n / 10 / 10 ≡ n / 100
tenths n = grind arith

pub hundredth_small : (n : ℕ) → n < 2 ^ 64 → n / 100 < 2 ^ 64
hundredth_small n h = grind arith

hundredths : (n : ℕ) → n / 100 / 100 ≡ n / 10000
hundredths n = grind arith

digit_alone : (n : ℕ) → n < 100 → n / 10 ≡ n / 10 % 10
digit_alone n h = grind arith

pub two_only : (n : ℕ) → 10 ≤ n → n < 100 → decimal n ≡ two_digits n
two_only n l h =
    decimal_step n l (omega (arith, h))
    ∙ ap (λ t. t ++ (48 + n % 10) ∷ []) (decimal_digit (n / 10) (grind (arith, h))
    ∙ ap (λ k. (48 + k) ∷ []) (digit_alone n h))

pub two_more : (n : ℕ) → 100 ≤ n → n < 2 ^ 64 → decimal n ≡ decimal (n / 100) ++ two_digits n
two_more n l h =
    decimal_step n (omega (arith, l)) h
    ∙ ap (λ t. t ++ (48 + n % 10) ∷ []) (decimal_step (n / 10) (tenth_some n l) (tenth_small n h)
    ∙ ap (λ k. decimal k ++ (48 + n / 10 % 10) ∷ []) (tenths n))
    ∙ append_assoc (decimal (n / 100)) ((48 + n / 10 % 10) ∷ []) ((48 + n % 10) ∷ [])

pub three_digits : (n : ℕ) → 100 ≤ n → n < 1000 → decimal n ≡ (48 + n / 100) ∷ two_digits n
three_digits n l h = two_more n l (omega (arith, h))
    ∙ ap (λ t. t ++ two_digits n) (decimal_digit (n / 100) (grind (arith, h)))

pub four_digits : (n : ℕ) → 1000 ≤ n → n < 10000 → decimal n ≡ two_digits (n / 100) ++ two_digits n
four_digits n l h = two_more n (omega (arith, l)) (omega (arith, h))
    ∙ ap (λ t. t ++ two_digits n) (two_only (n / 100) (grind (arith, l)) (grind (arith, h)))

pub four_more : (n : ℕ) → 10000 ≤ n → n < 2 ^ 64 → decimal n ≡ (decimal (n / 10000) ++ two_digits (n / 100))
    ++ two_digits n
four_more n l h =
    two_more n (omega (arith, l)) h
    ∙ ap (λ t. t ++ two_digits n) (two_more (n / 100) (grind (arith, l)) (hundredth_small n h)
    ∙ ap (λ k. decimal k ++ two_digits (n / 100)) (hundredths n))
