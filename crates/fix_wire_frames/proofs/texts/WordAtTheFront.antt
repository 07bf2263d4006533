-- A word at the front of a text, by recursion and in std's words.
use Rattle.std.proofs.Common.{◌≡◌, ℕ, suc, ◌<◌, Bool, true, false, cond, ◌&&◌, ◌||◌, ◌==◌, nat_eq, ltb, eqb, List, [], ◌∷◌, length, drop, Some, None, refl, sym, ap, ◌∙◌, arith}
use Rattle.std.specs.Bool.{then_some}
use Rattle.std.specs.List.{starts_with}
use Rattle.std.proofs.lemmas.Bool.Decides.{nat_tests}
use Rattle.fix_wire_frames.specs.code.Texts.{stripped, is_cut_short}
use Rattle.fix_wire_frames.specs.Frames.{begin_text}
use Rattle.fix_wire_frames.specs.code.Frames.{is_length_open}
use Rattle.fix_wire_frames.specs.code.Scans.{is_header_open}

pub behind_is : (word text : List ℕ) → stripped word text ≡ cond (starts_with nat_eq text word)
    (Some (drop (length word) text)) None
behind_is [] text = refl
behind_is (p ∷ ps) [] = refl
behind_is (p ∷ ps) (b ∷ bs) =
    elim (p == b) as (λ v. cond v (stripped ps bs) None ≡ cond (v && starts_with nat_eq bs ps)
    (Some (drop (length ps) bs)) None) [
      | true ↦ behind_is ps bs
      | false ↦ refl
    ]

pub some_where : {A : Type 0} (b : Bool) (x : A) → then_some b x ≡ cond b (Some x) None
some_where true x = refl
some_where false x = refl

pub eqb_swap : (a b : ℕ) → eqb a b ≡ eqb b a
eqb_swap a b = grind (arith, nat_tests)

and_swap : (x y z : Bool) → (x && (y && z)) ≡ (y && (x && z))
and_swap true y z = refl
and_swap false true z = refl
and_swap false false z = refl

pub ltb_suc : (a b : ℕ) → ltb (suc a) (suc b) ≡ ltb a b
ltb_suc a b = grind (arith, nat_tests)

pub cut_is : (word text : List ℕ) → is_cut_short word text ≡
    (ltb (length text) (length word) && starts_with nat_eq word text)
cut_is [] [] = grind (arith, nat_tests)
cut_is [] (b ∷ bs) = grind (arith, nat_tests)
cut_is (p ∷ ps) [] = grind (arith, nat_tests)
cut_is (p ∷ ps) (b ∷ bs) =
    ap (λ x. (p == b) && x) (cut_is ps bs) ∙ and_swap (p == b) (ltb (length bs) (length ps)) (starts_with nat_eq ps bs)
    ∙ ap (λ x. x && ((p == b) && starts_with nat_eq ps bs)) (sym (ltb_suc (length bs) (length ps)))
    ∙ ap (λ x. ltb (suc (length bs)) (suc (length ps)) && (x && starts_with nat_eq ps bs)) (eqb_swap p b)

or_false : (x : Bool) → (x || false) ≡ x
or_false true = refl
or_false false = refl

pub opens_short : (text : List ℕ) (b s : Bool) → b ≡ starts_with nat_eq text begin_text → b ≡ false → length text < 12
    → s ≡ starts_with nat_eq begin_text text → s ≡ is_header_open text
opens_short text b s e f short t =
    let none = behind_is begin_text text ∙ ap (λ x. cond x (Some (drop 12 text)) None) (sym e ∙ f) in
    let less : ltb (length text) 12 ≡ true = grind (arith, nat_tests) in
    let cut = cut_is begin_text text ∙ ap (λ x. x && starts_with nat_eq begin_text text) less ∙ sym t in
    sym (ap (λ x. is_cut_short begin_text text || is_length_open x) none ∙ or_false _ ∙ cut)
