-- A table of fields, one field after another.
use Rattle.std.proofs.Common.{is_some, true, false, cond, eqb, subst, unwrap_or, ◌≡◌, ◌≢◌, ℕ, ◌+◌, ◌*◌, ◌/◌, ◌%◌, ◌^◌, ◌<◌, ◌≤◌, w64, Bool, List, ◌++◌, Option, Some, None, set, get_or, length, take, drop, refl, sym, ap, ◌∙◌, arith}
use Rattle.std.specs.Prelude.{slice_range}
use Rattle.std.proofs.lemmas.List.{drop_all, drop-take, take-take, length-drop, length-set, get_or-set_same, get_or-set_other, drop-append-le, take-append-le}
use Rattle.std.proofs.lemmas.List.Sums.{passes_at_first}
use Rattle.std.proofs.lemmas.Nat.Bits.{bit_at-zero, bit_at_set_same, bit_at_set_other}
use Rattle.std.specs.Int.{bit_at}
use Rattle.std.proofs.Math.Pow.{pow-lt}
use Rattle.std.proofs.Math.Nat.{mod-eq_of_lt}
use Rattle.std.specs.Int.RustNames.{bit_and, bit_or}
use Rattle.std.proofs.lemmas.Grind.{common_steps}
use Rattle.std.proofs.lemmas.Bool.{eqb-true, eqb-false, false≢true}
use Rattle.fix_wire_frames.specs.declared.frame.LeadingField.{LeadingField}
use Rattle.fix_wire_frames.specs.declared.table.FieldPlace.{FieldPlace}
use Rattle.fix_wire_frames.specs.declared.table.FieldTable.{FieldTable}
use Rattle.fix_wire_frames.specs.declared.table.FrameTable.{FrameTable}
use Rattle.fix_wire_frames.specs.Fields.{fields_of_body}
use Rattle.fix_wire_frames.proofs.fields.RowOfFields.{row_some, value_step, first_some}
use Rattle.fix_wire_values.proofs.FirstPlace.{same, differs}
use Rattle.fix_wire_frames.specs.code.Scans.{value_of, first_field, leading_field_view}
use Rattle.fix_wire_frames.specs.code.Tabled.{tabled_tags, is_same, index_of, nowhere, place_at, has_place, value_at, with_field, IsWithin, IsTable, IsTableOf}
use Rattle.fix_wire_frames.specs.Frames.{frame_at, frame_length}
use Rattle.fix_wire_frames.proofs.framing.FrontStays.{frame_parts, header_stays, header_alone}

-- a tag that is tabled stands at its index
tag_at : (tag : ℕ) → index_of tag < 23 → get_or tabled_tags (index_of tag) 0 ≡ tag
tag_at tag l = eqb-true _ _ (passes_at_first (is_same tag) tabled_tags 0 l)

-- so no two tags have one index
same_tag : (a b : ℕ) → index_of a ≡ index_of b → index_of b < 23 → a ≡ b
same_tag a b e l = sym (tag_at a (omega (arith, e, l))) ∙ ap (λ i. get_or tabled_tags i 0) e ∙ tag_at b l

abbrev or_else : Option (List ℕ) → Option (List ℕ) → Option (List ℕ)
or_else None o = o
or_else (Some v) o = Some v

other_tag : (a b : ℕ) → eqb (index_of b) (index_of a) ≡ false → eqb a b ≡ false
other_tag a b d = differs a b (λ z. eqb-false _ _ d (ap index_of (sym z)))

-- Of each tabled tag, the place of its first field before the rest, where there is one.
pub record IsTabled (body : List ℕ) (t : FieldTable) (rest : ℕ) : Type 0 where
  pub size : length t.places ≡ 24
  pub near : rest ≤ length body
  pub within : (i : ℕ) → has_place t.present i ≡ true → IsWithin body (place_at t.places i)
  pub row : is_some (fields_of_body (drop rest body)) ≡ is_some (fields_of_body body)
  pub value : is_some (fields_of_body body) ≡ true → (tag : ℕ) → index_of tag < 23
      → or_else (value_at body t (index_of tag)) (value_of tag (drop rest body)) ≡ value_of tag body

no_bit : (i : ℕ) → eqb (bit_at 0 i) 1 ≡ false
no_bit i = ap (λ b. eqb b 1) (bit_at-zero i)

pub none_tabled : (body : List ℕ) (t : FieldTable) → length t.places ≡ 24 → t.present ≡ 0 → IsTabled body t 0
none_tabled body t size none =
    let blank : (i : ℕ) → has_place t.present i ≡ false = λ i. ap (λ p. has_place p i) none ∙ no_bit i in
    record {
      size = size;
      near = omega arith;
      within = λ i e. absurd (false≢true (sym (blank i) ∙ e));
      row = refl;
      value = λ whole tag l. ap (λ b. or_else (cond b (Some
          (slice_range body (place_at t.places (index_of tag)).start (place_at t.places (index_of tag)).end)) None)
          (value_of tag body)) (blank (index_of tag));
    }

abbrev pub placed : LeadingField → FieldPlace
placed f = record { start = f.start; end = f.end }

-- the value of a tag where the bit and the place with its index are these
abbrev read_as : List ℕ → Bool → FieldPlace → Option (List ℕ)
read_as body b p = cond b (Some (slice_range body p.start p.end)) None

abbrev with_bit : FieldTable → LeadingField → FieldTable
with_bit t f = record {
  places = set t.places (index_of f.tag) (placed f);
  present =
      bit_or t.present (2 ^ index_of f.tag);
}

one_shifted : (k : ℕ) → k < 24 → 1 * 2 ^ k % 2 ^ 64 ≡ 2 ^ k
one_shifted k l = let small : 2 ^ k < 2 ^ 64 = pow-lt {j = 64} (omega arith) in let one : 1 * 2 ^ k ≡ 2 ^ k =
    omega arith in ap (λ n. n % 2 ^ 64) one ∙ mod-eq_of_lt small

bit_here : (present k : ℕ) → k < 24 → has_place (bit_or present (2 ^ k)) k ≡ true
bit_here present k l =
    let one : 1 * 2 ^ k % 2 ^ 64 ≡ 2 ^ k = one_shifted k l in
    same _ 1 (ap (λ p. bit_at (bit_or present p) k) (sym one) ∙ bit_at_set_same w64 present k (omega arith))

bit_there : (present k i : ℕ) → k < 24 → i ≢ k → has_place (bit_or present (2 ^ k)) i ≡ has_place present i
bit_there present k i l other =
    let one : 1 * 2 ^ k % 2 ^ 64 ≡ 2 ^ k = one_shifted k l in
    ap (λ b. eqb b 1) (ap (λ p. bit_at (bit_or present p) i) (sym one)
    ∙ bit_at_set_other w64 present k (omega arith) i other)

-- what a field changes in the value of a tag
noted : (body : List ℕ) (t : FieldTable) (f : LeadingField) (tag : ℕ) (w : Option (List ℕ)) → length t.places ≡ 24
    → index_of f.tag < 24 → index_of tag < 23 →
    (b c : Bool) → has_place t.present (index_of f.tag) ≡ b → eqb (index_of tag) (index_of f.tag) ≡ c →
    or_else (value_at body (cond b t (with_bit t f)) (index_of tag)) w ≡ or_else (value_at body t (index_of tag))
    (cond (eqb f.tag tag) (Some (slice_range body f.start f.end)) w)
noted body t f tag w size few l false true e d =
    let i = eqb-true _ _ d in
    let k = index_of f.tag in
    let tags = same f.tag tag (same_tag f.tag tag (sym i) l) in
    ap (λ j. or_else (value_at body (with_bit t f) j) w) i
    ∙ ap (λ b. or_else (read_as body b (place_at (set t.places k (placed f)) k)) w) (bit_here t.present k few)
    ∙ ap (λ p. or_else (read_as body true p) w) (get_or-set_same t.places k (placed f) nowhere
    (omega (arith, size, few)))
    ∙ sym (ap (λ b. or_else (value_at body t (index_of tag)) (cond b (Some (slice_range body f.start f.end)) w)) tags
    ∙ ap (λ j. or_else (value_at body t j) (Some (slice_range body f.start f.end))) i
    ∙ ap (λ b. or_else (read_as body b (place_at t.places k)) (Some (slice_range body f.start f.end))) e)
noted body t f tag w size few l false false e d =
    let other = other_tag f.tag tag d in
    let apart : index_of tag ≢ index_of f.tag = λ z. eqb-false _ _ d z in
    ap (λ b. or_else (read_as body b (place_at (set t.places (index_of f.tag) (placed f)) (index_of tag))) w)
    (bit_there t.present (index_of f.tag) (index_of tag) few apart)
    ∙ ap (λ p. or_else (read_as body (has_place t.present (index_of tag)) p) w)
    (get_or-set_other t.places (index_of f.tag) (index_of tag) (placed f) nowhere apart)
    ∙ sym (ap (λ b. or_else (value_at body t (index_of tag)) (cond b (Some (slice_range body f.start f.end)) w)) other)
noted body t f tag w size few l true true e d =
    let i = eqb-true _ _ d in
    let held = ap (value_at body t) i ∙ ap (λ b. read_as body b (place_at t.places (index_of f.tag))) e in
    ap (λ v. or_else v w) held ∙ sym (ap (λ v. or_else v
    (cond (eqb f.tag tag) (Some (slice_range body f.start f.end)) w)) held)
noted body t f tag w size few l true false e d =
    sym (ap (λ b. or_else (value_at body t (index_of tag)) (cond b (Some (slice_range body f.start f.end)) w))
    (other_tag f.tag tag d))

pub tabled_more : (body : List ℕ) (t : FieldTable) (rest : ℕ) (f : LeadingField) → IsTabled body t rest
    → Some (leading_field_view body f) ≡ first_field (drop rest body) → f.start ≤ f.end → f.end < length body
    → index_of f.tag < 24 →
    IsTabled body (with_field t f) (f.end + 1)
tabled_more body t rest f tabled e order within index =
    let first = first_some (drop rest body) (leading_field_view body f) e in
    record {
      size = size_kept (has_place t.present (index_of f.tag));
      near = omega (arith, within);
      within = λ i here. within_kept i (has_place t.present (index_of f.tag)) (eqb i (index_of f.tag)) refl here;
      row = row_some (drop rest body) (leading_field_view body f) first e ∙ tabled.row;
      value = λ whole tag l.
          noted body t f tag (value_of tag (drop (f.end + 1) body)) tabled.size index l _ _ refl refl
          ∙ ap (or_else (value_at body t (index_of tag))) (sym
          (value_step tag (drop rest body) (leading_field_view body f) first e (tabled.row ∙ whole)))
          ∙ tabled.value whole tag l;
    }
  where
    size_kept : (b : Bool) → length (cond b t (with_bit t f)).places ≡ 24
    size_kept false = length-set t.places (index_of f.tag) (placed f) ∙ tabled.size
    size_kept true = tabled.size

    within_kept : (i : ℕ) → (b c : Bool) → eqb i (index_of f.tag) ≡ c
        → has_place (cond b t (with_bit t f)).present i ≡ true
        → IsWithin body (place_at (cond b t (with_bit t f)).places i)
    within_kept i true c d here = tabled.within i here
    within_kept i false true d here =
        let place = ap (place_at (set t.places (index_of f.tag) (placed f))) (eqb-true _ _ d)
        ∙ get_or-set_same t.places (index_of f.tag) (placed f) nowhere (omega (arith, tabled.size, index)) in
        subst (IsWithin body) (sym place) (record { order = order; end = omega (arith, within) })
    within_kept i false false d here =
        let apart : i ≢ index_of f.tag = λ z. eqb-false _ _ d z in
        subst (IsWithin body) (sym (get_or-set_other t.places (index_of f.tag) i (placed f) nowhere apart))
        (tabled.within i (sym (bit_there t.present (index_of f.tag) i index apart) ∙ here))

or_none : (o : Option (List ℕ)) → or_else o None ≡ o
or_none None = refl
or_none (Some v) = refl

-- the table once no field is left
pub all_tabled : (body : List ℕ) (t : FieldTable) (rest : ℕ) → IsTabled body t rest → length body ≤ rest
    → (is_some (fields_of_body body) ≡ true) × IsTable body t
unfolding fields_of_body
all_tabled body t rest tabled past =
    let none = drop_all rest body past in
    let whole = sym tabled.row ∙ ap (λ x. is_some (fields_of_body x)) none in (
      whole,
      record {
        size = tabled.size;
        within = tabled.within;
        value = λ tag l.
            sym (or_none (value_at body t (index_of tag)))
            ∙ sym (ap (λ x. or_else (value_at body t (index_of tag)) (value_of tag x)) none)
            ∙ tabled.value whole tag l;
      },
    )

-- the table of a text is that of the frame at its front
pub table_alone : (text : List ℕ) (n : ℕ) (t : FrameTable) → frame_at text ≡ Some n → IsTableOf text t
    → IsTableOf (take n text) t
table_alone text n t e known =
    let h = t.header in
    frame_parts text n e (λ c head keeps len fits.
    let same : c ≡ h = ap (λ o. unwrap_or o c) (sym head ∙ known.header) in
    let size : h.body_start + (h.body_length + 7) ≡ n = omega (arith, ap frame_length (sym same) ∙ len) in
    let body = ap (λ k. take h.body_length (drop h.body_start (take k text))) (sym size)
    ∙ ap (λ x. take h.body_length x) (drop-take h.body_start (h.body_length + 7) text)
    ∙ take-take h.body_length (h.body_length + 7) (drop h.body_start text) (omega arith) in
    record {
      header = header_alone text n h known.header (omega (arith, size))
          (omega (arith, size, ap frame_length (sym same), fits));
      fields = subst (λ (x : List ℕ). IsTable x t.fields) (sym body) known.fields;
    })

-- bytes that follow change nothing in the table of a frame
pub table_stays : (text more : List ℕ) (n : ℕ) (t : FrameTable) → frame_at text ≡ Some n → IsTableOf text t
    → IsTableOf (text ++ more) t
table_stays text more n t e known =
    let h = t.header in
    frame_parts text n e (λ c head keeps len fits.
    let same : c ≡ h = ap (λ o. unwrap_or o c) (sym head ∙ known.header) in
    let size : h.body_start + (h.body_length + 7) ≤ length text = omega (arith, ap frame_length (sym same), fits) in
    let left = length-drop h.body_start text in
    let body = ap (λ x. take h.body_length x) (drop-append-le h.body_start text more (omega (arith, size)))
    ∙ take-append-le h.body_length (drop h.body_start text) more (omega (arith, size, left)) in
    record {
      header = header_stays text more h known.header;
      fields = subst (λ (x : List ℕ). IsTable x t.fields) (sym body) known.fields;
    })

-- ---- what stands at a tabled tag

-- whether there is a place with this index, by one bit
pub place_stands : (present i : ℕ) → bit_and (present / 2 ^ i) 1 ≢ 0 → has_place present i ≡ true
place_stands present i h = grind (arith, common_steps)

pub no_place : (present i : ℕ) → bit_and (present / 2 ^ i) 1 ≡ 0 → has_place present i ≡ false
no_place present i h = grind (arith, common_steps)

-- the value of a tabled tag, where it is known whether it has a place
pub tabled_value : (body : List ℕ) (t : FieldTable) (tag i : ℕ) (b : Bool) → IsTable body t → i ≡ index_of tag → i < 23
    → has_place t.present i ≡ b
    → cond b (Some (slice_range body (place_at t.places i).start (place_at t.places i).end)) None ≡ value_of tag body
tabled_value body t tag i b table at within here =
    ap (λ v. cond v (Some (slice_range body (place_at t.places i).start (place_at t.places i).end)) None) (sym here)
    ∙ ap (value_at body t) at
    ∙ table.value tag (subst (λ n. n < 23) at within)
