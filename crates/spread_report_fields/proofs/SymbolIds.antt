-- A symbol is an id.
use Rattle.std.proofs.Common.{◌≡◌, ℕ, ◌+◌, ◌<◌, ◌≤◌, true, List, [], ◌∷◌, ◌++◌, length, refl, ◌∙◌, arith, length-append, Bool, ◌&&◌, take, sym, ap, append_assoc}
use borrow.Rule.Slice.PartMut.{put_mid}
use Rattle.std.proofs.Math.ListN.{set}
use Rattle.std.proofs.Math.Seq.{set-append_seam, take-append_seam}
use Rattle.std.proofs.lemmas.List.{length-set}
use Rattle.std.proofs.lemmas.Slice.{take-put_mid}
use Rattle.std.specs.Prelude.{nat_le, not, ◌==◌}
use Rattle.std.proofs.lemmas.List.Folds.{list_all-append}
use Rattle.std.proofs.lemmas.Bool.{le-leb}
use Rattle.spread_rules_ids.specs.Ids.{is_id, is_plain}

front_set : (xs ys : List ℕ) (b : ℕ) → 0 < length ys → take (length xs + 1) (set (xs ++ ys) (length xs) b) ≡ xs
    ++ b ∷ []
front_set xs [] b some = absurd (omega (arith, some))
front_set xs (y ∷ ys) b some =
    let n : length xs + 1 ≡ length (xs ++ b ∷ []) = sym (length-append xs (b ∷ [])) in
    ap (λ (t : List ℕ). take (length xs + 1) t) (set-append_seam xs y ys b ∙ sym (append_assoc xs (b ∷ []) ys))
    ∙ (ap (λ (k : ℕ). take k ((xs ++ b ∷ []) ++ ys)) n ∙ take-append_seam (xs ++ b ∷ []) ys)

-- what is written at the front, a byte after it, and what is written behind that
pub written_joined : (xs first rest second zs : List ℕ) (f n k : ℕ) → xs ≡ first → zs ≡ second → f ≡ length first
    → n ≡ f + 1 + length second → 0 < length rest
    → take n (put_mid (f + 1) k (set (xs ++ rest) f 45) zs) ≡ first ++ 45 ∷ second
written_joined xs first rest second zs f n k ex es ef en some =
    let len : length (set (xs ++ rest) f 45) ≡ length xs + length rest = length-set (xs ++ rest) f 45
    ∙ length-append xs rest in
    let lx : length xs ≡ f = ap (λ (t : List ℕ). length t) ex ∙ sym ef in
    let lz : length zs ≡ length second = ap (λ (t : List ℕ). length t) es in
    take-put_mid (f + 1) k (set (xs ++ rest) f 45) zs n (omega (arith, en, lz)) (omega (arith, len, lx, some))
    ∙ (ap (λ (j : ℕ). take (j + 1) (set (xs ++ rest) j 45) ++ zs) (sym lx)
    ∙ (ap (λ (t : List ℕ). t ++ zs) (front_set xs rest 45 some)
    ∙ (append_assoc xs (45 ∷ []) zs ∙ rw (ex, es) refl)))

and_both : (a b : Bool) → a ≡ true → b ≡ true → a && b ≡ true
and_both a b p q = rw (p, q) refl

pub id_with : (t : List ℕ) → 1 ≤ length t → length t ≤ 32 → is_plain t ≡ true → is_id t ≡ true
id_with t some most plain = and_both (nat_le 1 (length t) && nat_le (length t) 32) (is_plain t)
    (and_both (nat_le 1 (length t)) (nat_le (length t) 32) (le-leb 1 (length t) some) (le-leb (length t) 32 most)) plain

pub joined_id : (a b : List ℕ) → length a + length b < 32 → is_plain a ≡ true → is_plain b ≡ true
    → is_id (a ++ 45 ∷ b) ≡ true
joined_id a b few p q =
    let n : length (a ++ 45 ∷ b) ≡ length a + (length b + 1) = length-append a (45 ∷ b) ∙ omega arith in
    id_with (a ++ 45 ∷ b) (omega (arith, n)) (omega (arith, n, few))
    (list_all-append (λ c. not (c == 1)) a (45 ∷ b) ∙ and_both (is_plain a) (is_plain (45 ∷ b)) p q)
