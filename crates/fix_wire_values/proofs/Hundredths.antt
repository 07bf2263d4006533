-- Hundredths of capped parts.
use Rattle.std.proofs.Common.{◌≡◌, ℕ, ◌+◌, ◌-◌, ◌*◌, ◌<◌, Bool, true, false, List, [], ◌∷◌, ◌++◌, length, take, drop, min, sym, ap, ◌∙◌, arith, length-append}
use Rattle.std.specs.Char.{is_ascii_digit}
use Rattle.std.specs.List.{list_all, before_first, after_first}
use Rattle.std.proofs.lemmas.List.Folds.{list_all-append}
use Rattle.std.proofs.Common.{Option, Some, None, not, is_some}
use Rattle.std.proofs.lemmas.Option.{cond_some}
use Rattle.std.proofs.lemmas.Bool.Decides.{nat_tests}
use Rattle.std.proofs.lemmas.List.{append_assoc}
use Rattle.fix_wire_values.proofs.SpelledNumbers.{number_after_push}
use Rattle.fix_wire_values.specs.Digits.{number_of}
use Rattle.fix_wire_values.specs.code.Digits.{is_zero, is_point}
use Rattle.fix_wire_values.specs.Values.{within, hundredths_in, is_number}
use Rattle.fix_wire_values.specs.code.Values.{hundredths}
use Rattle.fix_wire_values.specs.code.Values.{limited_digits}

pub within_capped : (n c : ℕ) → within 1000000000 (min n 1000000000 * 100 + c) ≡ within 1000000000 (100 * n + c)
within_capped n c = grind (arith, nat_tests)

-- two digits behind a number
two_behind : (ds : List ℕ) (a b : ℕ) → 100 * number_of ds + number_of (a ∷ b ∷ []) ≡ number_of (ds ++ a ∷ b ∷ [])
two_behind ds a b =
    let one = number_after_push 0 ds a in
    let two = ap number_of (sym (append_assoc ds (a ∷ []) (b ∷ []))) ∙ number_after_push 0 (ds ++ a ∷ []) b in
    let same : 100 * number_of ds + number_of (a ∷ b ∷ []) ≡ 10 * number_of (ds ++ a ∷ []) + (b - 48) =
    omega (arith, one) in
    same ∙ sym two

-- so the whole units and the hundredths are one number
two_places : (whole part : List ℕ) → 100 * number_of whole + number_of (take 2 (part ++ 48 ∷ 48 ∷ [])) ≡ number_of
    (whole ++ take 2 (part ++ 48 ∷ 48 ∷ []))
two_places whole [] = two_behind whole 48 48
two_places whole (a ∷ []) = two_behind whole a 48
two_places whole (a ∷ b ∷ r) = two_behind whole a b

pub is_number-append : (whole part : List ℕ) → list_all is_ascii_digit whole ≡ true
    → list_all is_ascii_digit part ≡ true → 0 < length whole + length part → is_number (whole ++ part) ≡ true
is_number-append whole part w p some =
    rw (list_all-append is_ascii_digit whole part, length-append whole part, w, p) (grind (arith, nat_tests))

pub hundredths_is : (whole part : List ℕ) (units c : ℕ) → list_all is_ascii_digit whole ≡ true
    → list_all is_ascii_digit part ≡ true → 0 < length whole + length part → list_all is_zero (drop 2 part) ≡ true
    → units ≡ min (number_of whole) 1000000000 → c ≡ number_of (take 2 (part ++ 48 ∷ 48 ∷ []))
    → within 1000000000 (units * 100 + c) ≡ hundredths whole part
hundredths_is whole part units c w p some zeros u e =
    let n = is_number-append whole part w p some in
    let k = within_capped (number_of whole) c ∙ ap (λ x. within 1000000000 (100 * number_of whole + x)) e
    ∙ ap (within 1000000000) (two_places whole part) in
    rw (u, n, zeros) k

pub digits_some : (xs : List ℕ) (u : ℕ) → Some u ≡ limited_digits xs → (list_all is_ascii_digit xs ≡ true)
    × (u ≡ min (number_of xs) 1000000000)
digits_some xs u h = let p = cond_some (list_all is_ascii_digit xs) (min (number_of xs) 1000000000) u (sym h) in
    (p.0, sym p.1)

pub digits_is_some : (xs : List ℕ) (r : Option ℕ) (b : Bool) → r ≡ limited_digits xs → is_some r ≡ not b → b ≡ false
    → list_all is_ascii_digit xs ≡ true
digits_is_some xs None b e s f = cc
digits_is_some xs (Some u) b e s f = (digits_some xs u e).0

pub hundredths_at : (text whole part : List ℕ) → whole ≡ before_first is_point text → part ≡ after_first is_point text
    → hundredths whole part ≡ hundredths_in text
hundredths_at text whole part w p = ap (λ x. hundredths x part) w
    ∙ ap (λ x. hundredths (before_first is_point text) x) p
