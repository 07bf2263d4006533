-- Numbers as text: what a parse and a print say of the one spelling.
use Rattle.std.proofs.Common.{◌≡◌, ℕ, ℤ, ◌^◌, ◌<◌, List, ◌++◌, length, take, Result, Ok, Err, Bool, false, sym, ap, ◌∙◌, subst}
use Rattle.std.specs.Prelude.{FitsSigned}
use Rattle.std.specs.Int.{w64}
use Rattle.std.specs.Fmt.{decimal, signed_decimal}
use Rattle.std.specs.Str.{IsUtf8}
use Rattle.std.specs.Str.Parse.{ParsesUnsigned, ParsesSigned}
use Rattle.std.specs.Cmp.Lexicographic.{pointwise}
use Rattle.std.proofs.Math.Seq.{take-append_seam}
use Rattle.std.proofs.Common.{eqb}
use lib.Signed.{mag}
use Rattle.std.proofs.lemmas.Fmt.{parse-decimal, parse-signed_decimal, IsAscii-decimal, IsAscii-signed}
use Rattle.std.proofs.lemmas.Str.{IsUtf8-from_ascii}
use Rattle.std.proofs.lemmas.Bool.Decides.{Decides-eqb}
use Rattle.std.proofs.lemmas.Slice.Eq.{slice_eq-Decides}

pub IsUtf8-number : (n : ℕ) (bs : List ℕ) → n < 2 ^ 64 → bs ≡ decimal n → IsUtf8 bs
IsUtf8-number n bs lt e = subst IsUtf8 (sym e) (IsUtf8-from_ascii (decimal n) (IsAscii-decimal n lt))

pub not_refused : {E : Type 0} (e : E) (n : ℕ) (t bs : List ℕ) → n < 2 ^ 64 → t ≡ bs → bs ≡ decimal n
    → ParsesUnsigned {E = E} 64 10 t (Err e) → ⊥
not_refused {E} e n t bs lt same is h = let was = parse-decimal {E = E} 64 n t (Err e) lt lt (same ∙ is) h in absurd cc

pub parsed_is : {E : Type 0} (r : Result ℕ E) (m n : ℕ) (t bs : List ℕ) → r ≡ Ok m → n < 2 ^ 64 → t ≡ bs
    → bs ≡ decimal n → ParsesUnsigned 64 10 t r → m ≡ n
parsed_is r m n t bs was lt same is h = let gives = parse-decimal 64 n t r lt lt (same ∙ is) h in cc

-- what was parsed is printed again, so the comparison can't have failed
pub not_unequal : (p bs : List ℕ) (r : Bool) → p ≡ bs → r ≡ pointwise eqb p bs → r ≡ false → ⊥
not_unequal p bs r same e f = let t = (slice_eq-Decides Decides-eqb p bs r e).1 same in absurd cc

-- ---- signed

pub IsUtf8-signed : (z : ℤ) (bs : List ℕ) → mag z < 2 ^ 63 → bs ≡ signed_decimal z → IsUtf8 bs
IsUtf8-signed z bs lt e = subst IsUtf8 (sym e) (IsUtf8-from_ascii (signed_decimal z) (IsAscii-signed z lt))

pub not_refused_signed : {E : Type 0} (e : E) (z : ℤ) (t bs : List ℕ) → FitsSigned w64 z → t ≡ bs
    → bs ≡ signed_decimal z → ParsesSigned {E = E} w64 10 t (Err e) → ⊥
not_refused_signed {E} e z t bs fits same is h = let was =
    parse-signed_decimal {E = E} w64 z t (Err e) fits fits.sfits (same ∙ is) h in absurd cc

pub parsed_signed_is : {E : Type 0} (r : Result ℤ E) (y z : ℤ) (t bs : List ℕ) → r ≡ Ok y → FitsSigned w64 z → t ≡ bs
    → bs ≡ signed_decimal z → ParsesSigned w64 10 t r → y ≡ z
parsed_signed_is r y z t bs was fits same is h = let gives =
    parse-signed_decimal w64 z t r fits fits.sfits (same ∙ is) h in cc

-- a text whose begin differs has not that front
pub not_after : (bytes front rest begin : List ℕ) (r : Bool) → begin ≡ take (length front) bytes
    → r ≡ pointwise eqb begin front → r ≡ false → bytes ≡ front ++ rest → ⊥
not_after bytes front rest begin r b e f is = not_unequal begin front r
    (b ∙ ap (take (length front)) is ∙ take-append_seam front rest) e f
