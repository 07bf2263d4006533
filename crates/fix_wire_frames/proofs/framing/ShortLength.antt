-- BodyLength of three digits.
use Rattle.std.proofs.Common.{◌≡◌, ℕ, ◌+◌, ◌*◌, ◌-◌, ◌≤◌, true, ◌&&◌, List, [], ◌∷◌, length, take, get_or, ap, ◌∙◌, arith}
use Rattle.std.specs.Char.{is_ascii_digit}
use Rattle.std.specs.List.{list_all}
use Rattle.std.proofs.lemmas.Bool.Decides.{nat_tests}
use Rattle.fix_wire_values.proofs.FirstPlace.{first_here, before_more}
use Rattle.fix_wire_frames.specs.code.Frames.{header_after}
use Rattle.fix_wire_frames.specs.code.Scans.{header_read}
use Rattle.fix_wire_frames.proofs.framing.HeaderDigits.{header_found}

three_digits : (rest : List ℕ) (number : ℕ) → 4 ≤ length rest → is_ascii_digit (get_or rest 0 0) ≡ true
    → is_ascii_digit (get_or rest 1 0) ≡ true → is_ascii_digit (get_or rest 2 0) ≡ true → get_or rest 3 0 ≡ 1 →
    number ≡ (get_or rest 0 0 - 48) * 100 + (get_or rest 1 0 - 48) * 10 + (get_or rest 2 0 - 48)
    → header_read 3 number ≡ header_after rest
three_digits [] number l d e f soh v = absurd (omega arith)
three_digits (a ∷ []) number l d e f soh v = absurd (omega arith)
three_digits (a ∷ b ∷ []) number l d e f soh v = absurd (omega arith)
three_digits (a ∷ b ∷ c ∷ []) number l d e f soh v = absurd (omega arith)
three_digits (a ∷ b ∷ c ∷ s ∷ r) number l d e f soh v =
    let rest = a ∷ b ∷ c ∷ s ∷ r in
    let before = before_more rest 2 1 (before_more rest 1 1
    (before_more rest 0 1 (λ j none. absurd (omega arith)) (no_soh a d)) (no_soh b e)) (no_soh c f) in
    let digits : list_all is_ascii_digit (take 3 rest) ≡ true =
    ap (λ v. v && (is_ascii_digit b && (is_ascii_digit c && true))) d ∙ ap (λ v. v && (is_ascii_digit c && true)) e
    ∙ ap (λ v. v && true) f in
    header_found rest 3 number (first_here rest 3 1 (omega arith) before soh) (omega arith) (omega arith) digits
    (omega (arith, v))
  where
    no_soh : (b : ℕ) → is_ascii_digit b ≡ true → b ≡ 1 → ⊥
    no_soh b d e = grind (arith, nat_tests)

digit_bounds : (b : ℕ) → is_ascii_digit b ≡ true → (48 ≤ b) × (b ≤ 57)
digit_bounds b d = (grind (arith, nat_tests), grind (arith, nat_tests))

is_digit : (b : ℕ) → 48 ≤ b → b ≤ 57 → is_ascii_digit b ≡ true
is_digit b low high = grind (arith, nat_tests)

-- the same as the code tests it: two bytes are digits, and the sum of all three is in range
pub three_digits_summed : (rest : List ℕ) (sum : ℕ) → 4 ≤ length rest → get_or rest 3 0 ≡ 1
    → is_ascii_digit (get_or rest 1 0) ≡ true → is_ascii_digit (get_or rest 2 0) ≡ true →
    sum ≡ get_or rest 0 0 * 100 + get_or rest 1 0 * 10 + get_or rest 2 0 → 5333 ≤ sum → sum ≤ 6327
    → header_read 3 (sum - 5328) ≡ header_after rest
three_digits_summed rest sum l soh e f v low high =
    let tens = digit_bounds (get_or rest 1 0) e in
    let units = digit_bounds (get_or rest 2 0) f in
    let least : 48 ≤ get_or rest 0 0 = omega (arith, tens.1, units.1, v, low) in
    let most : get_or rest 0 0 ≤ 57 = omega (arith, tens.0, units.0, v, high) in
    three_digits rest (sum - 5328) l (is_digit (get_or rest 0 0) least most) e f soh
    (omega (arith, tens.0, units.0, least, v))
