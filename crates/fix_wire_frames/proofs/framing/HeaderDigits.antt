-- BodyLength read digit by digit.
use Rattle.std.proofs.Common.{◌≡◌, ℕ, ◌+◌, ◌<◌, ◌≤◌, Bool, true, false, cond, ◌&&◌, eqb, ltb, leb, List, get_or, length, take, Some, None, refl, sym, ap, ◌∙◌, arith, ◌⊎◌, inl, inr}
use Rattle.std.specs.List.{position_or_len, list_all}
use Rattle.std.specs.Char.{is_ascii_digit}
use Rattle.std.proofs.lemmas.Bool.{cases_lt, false≢true}
use Rattle.std.proofs.lemmas.Bool.Decides.{nat_tests}
use Rattle.std.proofs.lemmas.List.{length-take-le, get_or-take}
use Rattle.std.proofs.lemmas.List.Folds.{list_all_at}
use Rattle.std.proofs.lemmas.List.Sums.{passes_at_first}
use Rattle.fix_wire_values.specs.Digits.{number_of}
use Rattle.fix_wire_values.proofs.FirstPlace.{first_nowhere}
use Rattle.fix_wire_frames.specs.code.Texts.{is_soh}
use Rattle.fix_wire_frames.specs.Frames.{is_body_length}
use Rattle.fix_wire_frames.specs.code.Frames.{header_after, header_with}
use Rattle.fix_wire_frames.specs.code.Scans.{header_read}
use Rattle.fix_wire_frames.proofs.framing.FrontStays.{not_a_length, no_header}

past_true : (v d e : Bool) → (v && true && true && d && e) ≡ (v && d && e)
past_true true d e = refl
past_true false d e = refl

-- up to eight digits are a BodyLength if there is one, and the number that they spell is in range
length_tests : (ds : List ℕ) (i : ℕ) → length ds ≡ i → i ≤ 8 → list_all is_ascii_digit ds ≡ true
    → is_body_length ds ≡ (leb 1 i && leb 5 (number_of ds) && leb (number_of ds) 4096)
length_tests ds i len few digits =
    let some = ap (leb 1) len in
    let short : leb (length ds) 8 ≡ true = grind (arith, nat_tests) in
    rw (some, short, digits) (past_true (leb 1 i) (leb 5 (number_of ds)) (leb (number_of ds) 4096))

-- where the first SOH ends up to eight digits
pub header_found : (rest : List ℕ) (i n : ℕ) → i ≡ position_or_len is_soh rest → i < length rest → i ≤ 8
    → list_all is_ascii_digit (take i rest) ≡ true → n ≡ number_of (take i rest) → header_read i n ≡ header_after rest
header_found rest i n e l few digits value =
    let len = length-take-le i rest (omega arith) in
    let here : ltb i (length rest) ≡ true = grind (arith, nat_tests) in
    ap (header_read i) value
    ∙ sym (ap (λ x. cond x (Some (record { body_start = i + 13; body_length = number_of (take i rest) })) None)
    (ap (λ x. x && is_body_length (take i rest)) here ∙ length_tests (take i rest) i len few digits))
    ∙ ap (λ k. header_with k rest) e

not_ended : (rest : List ℕ) (k : ℕ) → length rest ≤ k → header_with k rest ≡ None
not_ended rest k l =
    let t : ltb k (length rest) ≡ false = grind (arith, nat_tests) in
    ap (λ x. cond (x && is_body_length (take k rest)) (Some
    (record { body_start = k + 13; body_length = number_of (take k rest) })) None) t

-- where no SOH stands
pub header_without_end : (rest : List ℕ) (i : ℕ) → length rest ≤ i → ((j : ℕ) → j < i → eqb (get_or rest j 0) 1 ≡ false)
    → None ≡ header_after rest
header_without_end rest i l before =
    let e = first_nowhere rest i 1 l before in sym (not_ended rest (position_or_len is_soh rest) (omega (arith, e)))

-- where none of the first bytes is SOH, and those before it are no BodyLength
pub header_not_spelled : (rest : List ℕ) (i : ℕ) → ((j : ℕ) → j < i → eqb (get_or rest j 0) 1 ≡ false)
    → ((k : ℕ) → i ≤ k → k < length rest → (8 < length (take k rest)) ⊎ (list_all is_ascii_digit (take k rest) ≡ false))
    → None ≡ header_after rest
header_not_spelled rest i before other = sym (by_place (cases_lt (position_or_len is_soh rest) (length rest)))
  where
    behind : (position_or_len is_soh rest < i) ⊎ (i ≤ position_or_len is_soh rest)
        → position_or_len is_soh rest < length rest → i ≤ position_or_len is_soh rest
    behind (inl less) l = absurd (false≢true (sym (before (position_or_len is_soh rest) less)
        ∙ passes_at_first is_soh rest 0 l))
    behind (inr more) l = more

    by_place : (position_or_len is_soh rest < length rest) ⊎ (length rest ≤ position_or_len is_soh rest)
        → header_after rest ≡ None
    by_place (inl l) =
        let k = position_or_len is_soh rest in
        no_header k rest (not_a_length (take k rest) (other k (behind (cases_lt k i) l) l))
    by_place (inr l) = not_ended rest (position_or_len is_soh rest) l

pub too_many : (rest : List ℕ) (k : ℕ) → 8 < k → k < length rest → 8 < length (take k rest)
too_many rest k l m = omega (arith, l, length-take-le k rest (omega (arith, m)))

pub other_byte : (rest : List ℕ) (i k : ℕ) → is_ascii_digit (get_or rest i 0) ≡ false → i < k → k < length rest
    → list_all is_ascii_digit (take k rest) ≡ false
other_byte rest i k e l m =
    let len = length-take-le k rest (omega arith) in
    list_all_at is_ascii_digit (take k rest) i 0 (omega (arith, len)) (ap is_ascii_digit (get_or-take k rest i 0 l) ∙ e)
