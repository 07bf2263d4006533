-- No frame begins but at an `8`.
use Rattle.std.proofs.Common.{◌≡◌, ℕ, suc, ◌+◌, Bool, true, false, cond, not, eqb, List, [], ◌∷◌, drop, refl, sym, ap, ◌∙◌, arith}
use Rattle.std.specs.List.{position_or_len}
use Rattle.std.proofs.lemmas.Bool.Decides.{nat_tests}
use Rattle.memchr.specs.Find.{is_byte}
use Rattle.fix_wire_frames.specs.Held.{from_first_start}
use Rattle.fix_wire_frames.proofs.framing.FramesHeld.{start_nothing}

swap_false : (a b : ℕ) → eqb a b ≡ false → eqb b a ≡ false
swap_false a b e = grind (arith, nat_tests)

-- where another byte stands, no frame stands or may begin
other_begin : (b : ℕ) (bs : List ℕ) → eqb b 56 ≡ false → from_first_start (b ∷ bs) ≡ from_first_start bs
other_begin b bs e =
    let f : eqb 56 b ≡ false = swap_false b 56 e in
    start_nothing b bs (rw f refl) (rw (e, f) refl)

skip_step : (b : ℕ) (bs : List ℕ) (k : ℕ) (v : Bool) → v ≡ eqb b 56
    → k ≡ cond (not v) (1 + position_or_len (is_byte 56) bs) 0
    → from_first_start (drop (position_or_len (is_byte 56) bs) bs) ≡ from_first_start bs
    → from_first_start (drop k (b ∷ bs)) ≡ from_first_start (b ∷ bs)
skip_step b bs k true v e ih = ap (λ n. from_first_start (drop n (b ∷ bs))) e
skip_step b bs k false v e ih = ap (λ n. from_first_start (drop n (b ∷ bs)))
    (e ∙ one_more (position_or_len (is_byte 56) bs)) ∙ ih ∙ sym (other_begin b bs (sym v))
  where
    one_more : (n : ℕ) → 1 + n ≡ suc n
    one_more n = omega arith

-- so all bytes before the first `8` go
pub skip_to_begin : (bs : List ℕ) (k : ℕ) → k ≡ position_or_len (is_byte 56) bs
    → from_first_start (drop k bs) ≡ from_first_start bs
skip_to_begin [] k e = ap (λ n. from_first_start (drop n [])) e
skip_to_begin (b ∷ bs) k e = skip_step b bs k (eqb b 56) refl e
    (skip_to_begin bs (position_or_len (is_byte 56) bs) refl)
