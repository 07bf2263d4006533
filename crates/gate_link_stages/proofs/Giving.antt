-- A slice of a journal, of which a beginning was given.
use Rattle.std.proofs.Common.{arith, ◌≡◌, ◌∙◌, sym, ap, ℕ, ◌+◌, ◌-◌, ◌≤◌, List, ◌++◌, length, take, drop, subst}
use Rattle.std.proofs.Math.Seq.{take-append-add, drop-append_seam, take-length}
use Rattle.std.proofs.lemmas.List.{length-append, take-append-drop, length-take, length-drop}
use mathlib.Core.List.{IsPrefix}

-- what is left
abbrev pub left : {X : Type 0} → List X → ℕ → List X
left journal count = take (length journal - count) (drop count journal)

pub length-left : {X : Type 0} (journal : List X) (count : ℕ) → length (left journal count) ≡ length journal - count
length-left journal count = omega (
  arith,
  length-take (length journal - count) (drop count journal),
  length-drop count journal,
)

pub left_is : {X : Type 0} (gs r : List X) → left (gs ++ r) (length gs) ≡ r
left_is gs r =
    let n : length (gs ++ r) - length gs ≡ length r = omega (arith, length-append gs r) in
    ap (λ k. take k (drop (length gs) (gs ++ r))) n ∙ (ap (λ t. take (length r) t) (drop-append_seam gs r)
    ∙ take-length r)

-- the next k of the journal are given
pub gave : {X : Type 0} (gs journal : List X) (count k : ℕ) → IsPrefix gs journal → count ≡ length gs → gs
    ++ take k (left journal count) ≡ take (length gs + k) journal
gave gs journal count k pre same =
    let inner : gs ++ take k (left (gs ++ pre.0) (length gs)) ≡ take (length gs + k) (gs ++ pre.0) =
    ap (λ t. gs ++ take k t) (left_is gs pre.0) ∙ sym (take-append-add gs pre.0 k) in
    rw same (subst (λ (j : List _). gs ++ take k (left j (length gs)) ≡ take (length gs + k) j) pre.1 inner)

-- what was given is a beginning of the journal again
pub front_prefix : {X : Type 0} (n : ℕ) (journal : List X) → IsPrefix (take n journal) journal
front_prefix n journal = (drop n journal, take-append-drop n journal)

-- and is that much longer
pub gave_length : {X : Type 0} (gs journal es : List X) (count k : ℕ) → count ≡ length gs
    → k ≤ length (left journal count) → es ≡ gs ++ take k (left journal count) → count + k ≡ length es
gave_length gs journal es count k same few all =
    omega (arith, ap length all, length-append gs (take k (left journal count)), length-take k (left journal count))
