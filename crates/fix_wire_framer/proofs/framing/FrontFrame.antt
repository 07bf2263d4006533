-- What a framer knows of the frame at its front.
use Rattle.std.proofs.Common.{◌≡◌, ◌≢◌, ℕ, ◌+◌, ◌-◌, ◌<◌, ◌≤◌, List, ◌++◌, length, drop, Option, Some, None, sym, ap, subst, ◌∙◌, arith}
use Rattle.std.specs.Prelude.{slice_range, unwrap_or}
use Rattle.std.specs.List.{between}
use Rattle.std.proofs.lemmas.List.{length-take-le, length-drop}
use Rattle.fix_wire_framer.specs.declared.framer.Framer.TheInside.{Inside}
use Rattle.fix_wire_framer.specs.code.FramerFields.{held_of, IsKept}
use Rattle.fix_wire_framer.specs.declared.framer.FramePlace.{FramePlace}
use Rattle.fix_wire_framer.specs.FramePlaces.{frame_of}
use Rattle.fix_wire_framer.proofs.framing.HeldPart.{range_part}
use Rattle.fix_wire_frames.specs.Frames.{frame_at}
use Rattle.fix_wire_frames.specs.Held.{from_first_start}
use Rattle.fix_wire_frames.specs.declared.table.FrameTable.{FrameTable}
use Rattle.fix_wire_frames.specs.code.Tabled.{IsTableOf}
use Rattle.fix_wire_frames.proofs.framing.FrontStays.{frame_stays, frame_within}
use Rattle.fix_wire_frames.proofs.framing.FramesHeld.{start_frame}
use Rattle.fix_wire_frames.proofs.fields.TableOfFields.{table_stays}

-- it still knows it when bytes were put
pub knows_put : (text held : List ℕ) (found : ℕ) (now : List ℕ) → now ≡ held ++ text
    → (found ≢ 0 → frame_at held ≡ Some found) → found ≢ 0 → frame_at now ≡ Some found
knows_put text held found now e known some = ap frame_at e ∙ frame_stays held text found (known some)

-- it knows what it found
pub knows_found : (o : Option ℕ) (found : ℕ) (text : List ℕ) → found ≡ unwrap_or o 0 → o ≡ frame_at text → found ≢ 0
    → frame_at text ≡ Some found
knows_found None found text e f some = absurd (some e)
knows_found (Some n) found text e f some = sym f ∙ ap Some (sym e)

-- nothing is skipped before it
pub front_known : (f : Inside) (held : List ℕ) → IsKept f → held_of f ≡ held → 0 < f.front_length
    → Some f.front_length ≡ frame_at (from_first_start held)
front_known f held kept e some =
    let known = ap frame_at (sym e) ∙ kept.known (λ none. absurd (omega (arith, none, some))) in
    sym (ap frame_at (start_frame held f.front_length known) ∙ known)

-- it is there whole
pub front_fits : (f : Inside) (held : List ℕ) → IsKept f → held_of f ≡ held → 0 < f.front_length
    → 0 + f.front_length ≤ length held
front_fits f held kept e some =
    let within = frame_within held f.front_length (ap frame_at (sym e)
    ∙ kept.known (λ none. absurd (omega (arith, none, some)))) in
    omega (arith, within.1)

-- and its table too
table_put : (text held : List ℕ) (found : ℕ) (t : FrameTable) (now : List ℕ) → now ≡ held ++ text
    → (found ≢ 0 → frame_at held ≡ Some found) → (found ≢ 0 → IsTableOf held t) → found ≢ 0 → IsTableOf now t
table_put text held found t now e known tabled some =
    subst (λ (x : List ℕ). IsTableOf x t) (sym e) (table_stays held text found t (known some) (tabled some))

-- bytes are put behind those that are held, wherever these were moved to
pub put_kept : (f i : Inside) (buffer text : List ℕ) (taken : ℕ) → IsKept f → i.start ≤ i.end → i.end + taken ≤ 8192
    → i.front_length ≡ f.front_length → i.table ≡ f.table → held_of i ≡ held_of f → length text ≡ taken →
    slice_range buffer i.start (i.end + length text) ≡ slice_range i.buffer i.start i.end ++ text
    → IsKept (record {
      buffer = buffer;
      start = i.start;
      end = i.end + taken;
      front_length = i.front_length;
      table =
          i.table;
    })
put_kept f i buffer text taken kept order room same table held len put =
    let now = ap (λ n. slice_range buffer i.start (i.end + n)) (sym len) ∙ put ∙ ap (λ t. t ++ text) held in
    let known : i.front_length ≢ 0 → frame_at (held_of f) ≡ Some i.front_length =
    λ some. kept.known (λ none. some (same ∙ none)) ∙ ap Some (sym same) in
    record {
      order = omega (arith, order);
      room = room;
      known = knows_put text (held_of f) i.front_length _ now known;
      tabled = table_put text (held_of f) i.front_length i.table _ now known
          (λ some. subst (λ (t : FrameTable). IsTableOf (held_of f) t) (sym table)
          (kept.tabled (λ none. some (same ∙ none))));
    }

range_length : (xs : List ℕ) (start end : ℕ) → end ≤ length xs → length (between start end xs) ≡ end - start
range_length xs start end l = length-take-le (end - start) (drop start xs) (omega (arith, length-drop start xs))

-- the places that were skipped lie within what is held
pub skip_within : (f : Inside) (skip : ℕ) (held : List ℕ) → length f.buffer ≡ 8192 → IsKept f → held_of f ≡ held
    → skip ≤ length held → f.start + skip ≤ f.end
skip_within f skip held full kept e l =
    let len = range_length f.buffer f.start f.end (omega (arith, full, kept.room)) in
    let same = ap length e in
    omega (arith, len, same, kept.order, l)

-- what is held fits into the buffer
pub held_short : (f : Inside) (held : List ℕ) → length f.buffer ≡ 8192 → IsKept f → held_of f ≡ held
    → length held ≤ 8192
held_short f held full kept e =
    let len = range_length f.buffer f.start f.end (omega (arith, full, kept.room)) in
    let same = ap length e in
    omega (arith, len, same, kept.room)

-- the bytes of the buffer at a place of a frame are those that are held there
pub place_held : (f : Inside) (now : List ℕ) (p : FramePlace) → length f.buffer ≡ 8192 → IsKept f → held_of f ≡ now
    → p.start ≤ p.end → p.end ≤ length now → between (f.start + p.start) (f.start + p.end) f.buffer ≡ frame_of now p
place_held f now p full kept is order within =
    range_part f.buffer f.start p.start p.end f.end order (skip_within f p.end now full kept is within)
    ∙ ap (λ t. frame_of t p) is
