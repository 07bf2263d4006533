-- A line's fields are read in one way.
use Rattle.std.proofs.Common.{◌≡◌, ℕ, ℤ, ◌^◌, ◌<◌, List, [], ◌∷◌, ◌++◌, sym, ◌∙◌, arith, pos, neg_ℤ, ◌≤ℤ◌}
use Rattle.std.specs.Prelude.{FitsSigned}
use Rattle.std.specs.Int.{w64}
use Rattle.std.proofs.lemmas.Int.{ints}
use Rattle.std.proofs.lemmas.List.{append_cancel_left}
use Rattle.std.specs.Fmt.{decimal, signed_decimal}
use Rattle.std.specs.Str.Parse.{AllDigits}
use Rattle.std.proofs.lemmas.Str.Parse.{digit_from_value}
use Rattle.std.proofs.lemmas.Fmt.{decimal_is_IsNumeral, decimal_injective, signed_decimal_injective}
use Rattle.spread_rules_ids.specs.Cut.{Lacks}
use Rattle.spread_rules_ids.proofs.Cuts.{cut_once}

Lacks-digits : (ds : List ℕ) → AllDigits 10 ds → Lacks 32 ds
Lacks-digits [] h = tt
Lacks-digits (d ∷ ds) h = (
  λ e. let range = digit_from_value d h.0 in absurd (omega (arith, range)),
  Lacks-digits ds h.1,
)

pub Lacks-decimal : (n : ℕ) → n < 2 ^ 64 → Lacks 32 (decimal n)
Lacks-decimal n lt = Lacks-digits (decimal n) (decimal_is_IsNumeral n lt).0.1

-- a field that is cut off is that number's text
pub field_is : (bytes digits rest x : List ℕ) (n : ℕ) → n < 2 ^ 64 → bytes ≡ digits ++ 32 ∷ rest → Lacks 32 digits
    → bytes ≡ decimal n ++ 32 ∷ x → digits ≡ decimal n
field_is bytes digits rest x n lt is lacks e = (cut_once 32 digits (decimal n) rest x (sym is ∙ e) lacks
    (Lacks-decimal n lt)).0

pub field_once : (m n : ℕ) (x y : List ℕ) → m < 2 ^ 64 → n < 2 ^ 64 → decimal m ++ 32 ∷ x ≡ decimal n ++ 32 ∷ y
    → (m ≡ n) × (x ≡ y)
field_once m n x y lm ln e =
    let once = cut_once 32 (decimal m) (decimal n) x y e (Lacks-decimal m lm) (Lacks-decimal n ln) in
    (decimal_injective m n lm ln once.0, once.1)

-- a number behind a front
pub behind_is : (front : List ℕ) (m n : ℕ) (text rest : List ℕ) → m < 2 ^ 64 → n < 2 ^ 64 → text ≡ front ++ rest
    → rest ≡ decimal m → text ≡ front ++ decimal n → m ≡ n
behind_is front m n text rest lm ln is r e = decimal_injective m n lm ln
    (sym r ∙ append_cancel_left front rest (decimal n) (sym is ∙ e))

-- a number's field behind a front, and what follows it
pub both_behind : (front : List ℕ) (m n : ℕ) (text rest x y : List ℕ) → m < 2 ^ 64 → n < 2 ^ 64 → text ≡ front ++ rest
    → rest ≡ decimal m ++ 32 ∷ x → text ≡ front ++ (decimal n ++ 32 ∷ y) → (m ≡ n) × (x ≡ y)
both_behind front m n text rest x y lm ln is r e =
    field_once m n x y lm ln (sym r ∙ append_cancel_left front rest (decimal n ++ 32 ∷ y) (sym is ∙ e))

pub price_fits : (z : ℤ) → neg_ℤ (pos 1000000000) ≤ℤ z → z ≤ℤ pos 1000000000 → FitsSigned w64 z
price_fits z low high = omega (arith, ints)

pub signed_is : (y z : ℤ) (text : List ℕ) → FitsSigned w64 y → FitsSigned w64 z → text ≡ signed_decimal y
    → text ≡ signed_decimal z → y ≡ z
signed_is y z text fy fz a b = signed_decimal_injective y z fy.sfits fz.sfits (sym a ∙ b)
