-- What a message means by the text of its kind, and by the bytes of that text.
use Rattle.std.proofs.Common.{◌≡◌, ℕ, false, cond, eqb, List, [], ◌∷◌, Err, length, refl, arith}
use Rattle.std.specs.Str.{bytes_eq}
use Rattle.std.proofs.Math.Bool.{and-true, and-false}
use Rattle.std.proofs.lemmas.Bool.Decides.{nat_tests}
use Rattle.fix_wire_frames.specs.Messages.{kind}
use Rattle.fix_session_kinds.specs.Table.{meaning_by, meaning_of_message}
use Rattle.fix_session_kinds.specs.code.ByKind.{known, meaning_of_kind_text}

by_bytes : (text m : List ℕ) (n : ℕ) → cond (eqb (length text) 0) (Err 4)
    (known (meaning_by (λ type. bytes_eq text (type ∷ [])) m n) m) ≡ meaning_of_kind_text text m n
by_bytes [] m n = refl
by_bytes (k ∷ []) m n = λ i. known (meaning_by (λ type. and-true (eqb k type) i) m n) m
by_bytes (k ∷ l ∷ ks) m n =
    let some : eqb (length (k ∷ l ∷ ks)) 0 ≡ false = grind (arith, nat_tests) in
    λ i. cond (some i) (Err 4) (known (meaning_by (λ type. and-false (eqb k type) i) m n) m)

pub meaning_is : (m : List ℕ) (n : ℕ) → meaning_of_message m n ≡ meaning_of_kind_text (kind m) m n
meaning_is m n = by_bytes (kind m) m n
