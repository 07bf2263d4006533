-- A number of one or two digits: its last digit is put behind its tens, or over them.
use Rattle.std.proofs.Common.{◌≡◌, ℕ, ◌+◌, ◌/◌, ◌%◌, ◌<◌, ◌≤◌, true, false, ltb, List, [], ◌∷◌, ◌++◌, length, take, decimal, sym, ap, ◌∙◌, arith, ◌⊎◌, inl, inr}
use mir.Val.{bool_byte}
use Rattle.std.proofs.lemmas.Bool.{cases_lt}
use Rattle.std.proofs.lemmas.Bool.Decides.{nat_tests}
use Rattle.std.proofs.lemmas.Fmt.{decimal_digit}
use Rattle.std.proofs.lemmas.List.{take-take, take_at, length-take-le}
use Rattle.fix_wire_values.proofs.Appended.{step}
use Rattle.fix_wire_values.proofs.LastTwoDigits.{two_only}

-- what stood before a byte that was put stands there still
before : (at after d : ℕ) (o r : List ℕ) → at ≤ length o → after ≡ at + 1 → take after r ≡ take at o ++ d ∷ []
    → take at r ≡ take at o
before at after d o r h next e =
    sym (take-take at after r (omega (arith, next))) ∙ ap (λ t. take at t) e
    ∙ take_at (take at o) (d ∷ []) at (length-take-le at o h)

one_digit : (n : ℕ) → n < 10 → n % 10 ≡ n
one_digit n h = grind (arith, h)

pub digits_at : (n at after last end : ℕ) (o r s : List ℕ) → n < 100 → at ≤ length o → after ≡ at + 1
    → last ≡ at + bool_byte (ltb 9 n)
    → take after r ≡ take at o ++ (48 + n / 10 % 10) ∷ [] → take end s ≡ take last r ++ (48 + n % 10) ∷ []
    → take end s ≡ take at o ++ decimal n
digits_at n at after last end o r s few within next is_last first second = by (cases_lt 9 n)
  where
    by : (9 < n) ⊎ (n ≤ 9) → take end s ≡ take at o ++ decimal n
    by (inl two) =
        let more : ltb 9 n ≡ true = grind (arith, nat_tests) in
        let is : last ≡ after = is_last ∙ ap (λ b. at + bool_byte b) more ∙ sym next in
        step (take at o) (take after r) (take end s) ((48 + n / 10 % 10) ∷ []) ((48 + n % 10) ∷ [])
        (second ∙ ap (λ k. take k r ++ (48 + n % 10) ∷ []) is) first
        ∙ ap (λ t. take at o ++ t) (sym (two_only n (omega (arith, two)) few))
    by (inr one) =
        let more : ltb 9 n ≡ false = grind (arith, nat_tests) in
        let same : last ≡ at + 0 = is_last ∙ ap (λ b. at + bool_byte b) more in
        let is : last ≡ at = omega (arith, same) in
        second
        ∙ ap (λ k. take k r ++ (48 + n % 10) ∷ []) is
        ∙ ap (λ t. t ++ (48 + n % 10) ∷ []) (before at after (48 + n / 10 % 10) o r within next first)
        ∙ ap (λ k. take at o ++ (48 + k) ∷ []) (one_digit n (omega (arith, one)))
        ∙ ap (λ t. take at o ++ t) (sym (decimal_digit n (omega (arith, one))))
