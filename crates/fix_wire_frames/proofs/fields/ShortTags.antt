-- Tags of two digits.
use Rattle.std.proofs.Common.{◌≡◌, ◌≢◌, ℕ, ◌+◌, ◌*◌, ◌-◌, ◌%◌, ◌≤◌, ◌<◌, true, false, cond, not, ◌&&◌, eqb, List, [], ◌∷◌, Some, length, take, drop, get_or, sym, ap, ◌∙◌, arith}
use Rattle.std.specs.Char.{is_ascii_digit}
use Rattle.std.specs.List.{position_or_len, list_all}
use Rattle.std.proofs.lemmas.Bool.Decides.{nat_tests}
use Rattle.fix_wire_frames.specs.code.Texts.{is_equals}
use Rattle.fix_wire_frames.specs.Fields.{field_of_text}
use Rattle.fix_wire_values.proofs.FirstPlace.{same}
use Rattle.fix_wire_frames.proofs.fields.RowOfFields.{field_found}

pub digit_is_not_equals : (b : ℕ) → is_ascii_digit b ≡ true → eqb b 61 ≡ false
digit_is_not_equals b d = grind (arith, nat_tests)

pub two_digits : (text : List ℕ) (tag : ℕ) → 3 ≤ length text → is_ascii_digit (get_or text 0 0) ≡ true
    → get_or text 0 0 ≢ 48 → is_ascii_digit (get_or text 1 0) ≡ true → get_or text 2 0 ≡ 61
    → tag ≡ (get_or text 0 0 - 48) * 10 + (get_or text 1 0 - 48) →
    Some (record { tag = tag; value = drop 3 text }) ≡ field_of_text text
two_digits [] tag l d first f e v = absurd (omega arith)
two_digits (a ∷ []) tag l d first f e v = absurd (omega arith)
two_digits (a ∷ b ∷ []) tag l d first f e v = absurd (omega arith)
two_digits (a ∷ b ∷ c ∷ r) tag l d first f e v =
    let x = digit_is_not_equals a d in
    let y = digit_is_not_equals b f in
    let z = same c 61 e in
    let place : 2 ≡ position_or_len is_equals (a ∷ b ∷ c ∷ r) =
    sym (ap (λ v. cond (not v) (1 + cond (not (eqb b 61))
    (1 + cond (not (eqb c 61)) (1 + position_or_len is_equals r) 0) 0) 0) x
    ∙ ap (λ v. 1 + cond (not v) (1 + cond (not (eqb c 61)) (1 + position_or_len is_equals r) 0) 0) y
    ∙ ap (λ v. 1 + (1 + cond (not v) (1 + position_or_len is_equals r) 0)) z) in
    let digits : list_all is_ascii_digit (take 2 (a ∷ b ∷ c ∷ r)) ≡ true = ap (λ v. v && (is_ascii_digit b && true)) d
    ∙ ap (λ v. v && true) f in
    field_found (a ∷ b ∷ c ∷ r) 2 tag place (omega arith) (omega arith) (omega arith) first digits (omega (arith, v))

-- a byte of which another was taken away, modulo 256, where nothing was borrowed
taken_back : (b k t : ℕ) → b < 256 → k ≤ 256 → t ≡ (b + (256 - k)) % 256 → t + k < 256 → b ≡ t + k
taken_back b k t small most e low = omega (arith, small, most, e, low)

is_digit : (b t : ℕ) → b ≡ t + 48 → t ≤ 9 → is_ascii_digit b ≡ true
is_digit b t e low = grind (arith, nat_tests)

-- the same as the code tests it: what is left of each byte, and the number that both make
pub two_digits_left : (text : List ℕ) (tens units : ℕ) → 3 ≤ length text → ((i : ℕ) → get_or text i 0 < 256)
    → tens ≡ (get_or text 0 0 + 208) % 256 → units ≡ (get_or text 1 0 + 208) % 256 → get_or text 2 0 ≡ 61 → units ≤ 9
    → 10 ≤ tens * 10 + units → tens * 10 + units ≤ 99 →
    Some (record { tag = tens * 10 + units; value = drop 3 text }) ≡ field_of_text text
two_digits_left text tens units l small t u equals less low high =
    let first = taken_back (get_or text 0 0) 48 tens (small 0) (omega arith) t (omega (arith, high)) in
    let second = taken_back (get_or text 1 0) 48 units (small 1) (omega arith) u (omega (arith, less)) in
    two_digits text (tens * 10 + units) l (is_digit (get_or text 0 0) tens first (omega (arith, high)))
    (λ zero. absurd (omega (arith, first, zero, low, less)))
    (is_digit (get_or text 1 0) units second less) equals (omega (arith, first, second))
