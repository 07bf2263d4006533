-- The table of indexes has the index of each tag.
use Rattle.std.proofs.Common.{◌≡◌, ℕ, zero, suc, ◌+◌, ◌-◌, ◌<◌, ◌≤◌, min, Bool, true, false, cond, not, ◌&&◌, T, eqb, ltb, ltb→lt, List, [], ◌∷◌, length, get_or, inl, inr, refl, sym, ap, ◌∙◌, arith, eq-zero-or-pos, eqb→eq}
use Rattle.std.specs.List.{position_or_len}
use Rattle.std.proofs.lemmas.Bool.Decides.{nat_tests}
use lib.Ieee.Fits.{and_l, and_r}
use Rattle.fix_wire_frames.specs.declared.table.TheConstants.{TAG_INDEXES}
use Rattle.fix_wire_frames.specs.code.Tabled.{tabled_tags, is_same, index_of}
use Rattle.fix_wire_frames.proofs.fields.RowOfFields.{place_within}

abbrev are_indexes : ℕ → Bool
are_indexes zero = true
are_indexes (suc t) = eqb (get_or TAG_INDEXES t 0) (index_of t) && are_indexes t

below : (n t : ℕ) → T (are_indexes n) → t < n → get_or TAG_INDEXES t 0 ≡ index_of t
below zero t h l = absurd (omega arith)
below (suc n) t h l =
    elim (eq-zero-or-pos (n - t)) [
      | inl z ↦ let e : t ≡ n = omega arith in rw e (eqb→eq _ _ (and_l _ (are_indexes n) h))
      | inr g ↦ below n t (and_r _ (are_indexes n) h) (omega arith)
    ]

short_tag : (tag : ℕ) → tag < 128 → get_or TAG_INDEXES tag 0 ≡ index_of tag
short_tag tag l = below 128 tag tt l

pub index_within : (tag : ℕ) → index_of tag ≤ 23
index_within tag = place_within (is_same tag) tabled_tags

-- no tag from 127 on is tabled
abbrev are_below : List ℕ → Bool
are_below [] = true
are_below (t ∷ ts) = ltb t 127 && are_below ts

not_among : (tag : ℕ) (ts : List ℕ) → T (are_below ts) → 127 ≤ tag → position_or_len (is_same tag) ts ≡ length ts
not_among tag [] few l = refl
not_among tag (t ∷ ts) few l =
    let less = ltb→lt t 127 (and_l _ (are_below ts) few) in
    let differs : is_same tag t ≡ false = grind (arith, nat_tests) in
    let rest = not_among tag ts (and_r _ (are_below ts) few) l in
    ap (λ v. cond (not v) (1 + position_or_len (is_same tag) ts) 0) differs ∙ omega (arith, rest)

pub tag_index : (tag : ℕ) → get_or TAG_INDEXES (min tag 127) 0 ≡ index_of tag
tag_index tag =
    elim (eq-zero-or-pos (tag - 127)) [
      | inl z ↦ let e : min tag 127 ≡ tag = omega (arith, z) in ap (λ t. get_or TAG_INDEXES t 0) e
          ∙ short_tag tag (omega (arith, z))
      | inr g ↦ let e : min tag 127 ≡ 127 = omega (arith, g) in ap (λ t. get_or TAG_INDEXES t 0) e
          ∙ sym (not_among tag tabled_tags tt (omega (arith, g)))
    ]
