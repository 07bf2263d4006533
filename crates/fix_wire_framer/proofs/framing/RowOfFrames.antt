-- A row of whole frames.
use Rattle.std.proofs.Common.{◌≡◌, ℕ, ◌<◌, ◌≤◌, true, false, eqb, List, [], ◌∷◌, length, take, drop, nat_eq, Option, Some, None, sym, ap, subst, ◌∙◌, arith, ◌⊎◌, inl, inr}
use Rattle.std.specs.List.{AllByRecursion, concat, starts_with}
use Rattle.std.proofs.lemmas.Bool.{false≢true}
use Rattle.std.proofs.lemmas.Option.{cond_some, option_and_then_some}
use Rattle.std.proofs.Math.Seq.{drop-append_seam}
use Rattle.fix_wire_frames.specs.declared.frame.FrameHeader.{FrameHeader}
use Rattle.fix_wire_frames.specs.Frames.{begin_text, header, frame_at, frame_length, frames, IsFrame, IsFrameRow}
use Rattle.fix_wire_frames.specs.code.Frames.{header_after}
use Rattle.fix_wire_frames.specs.code.Texts.{stripped}
use Rattle.fix_wire_frames.proofs.texts.WordAtTheFront.{behind_is}
use Rattle.fix_wire_frames.proofs.texts.HeaderAtTheFront.{header_is}
use Rattle.fix_wire_frames.proofs.framing.FrontStays.{frame_stays, frame_within, frame_parts}
use Rattle.fix_wire_frames.proofs.framing.FramesHeld.{frames_frame}

-- it begins with a frame, and goes on as a row
pub record Begins (text : List ℕ) : Type 0 where
  pub size : ℕ
  pub first : frame_at text ≡ Some size
  pub behind : IsFrameRow (drop size text)

row_begins : (row : List (List ℕ)) (text : List ℕ) → AllByRecursion IsFrame row → concat row ≡ text
    → (text ≡ []) ⊎ Begins text
row_begins [] text whole joined = inl (sym joined)
row_begins (m ∷ ms) text whole joined = inr (record {
  size = length m;
  first = subst (λ (t : List ℕ). frame_at t ≡ Some (length m)) joined (frame_stays m (concat ms) (length m) whole.0);
  behind = record {
    row = ms;
    whole = whole.1;
    joined = sym (drop-append_seam m (concat ms)) ∙ ap (drop (length m)) joined;
  };
})

pub begins : (text : List ℕ) → IsFrameRow text → false ≡ eqb (length text) 0 → Begins text
begins text r some = by_start (row_begins r.row text r.whole r.joined)
  where
    by_start : (text ≡ []) ⊎ Begins text → Begins text
    by_start (inl none) = absurd (false≢true (some ∙ ap (λ (t : List ℕ). eqb (length t) 0) none))
    by_start (inr b) = b

header_begins : (text : List ℕ) (h : FrameHeader) → header text ≡ Some h → starts_with nat_eq text begin_text ≡ true
header_begins text h e =
    option_and_then_some header_after (stripped begin_text text) h (sym (header_is text) ∙ e) (λ rest stands says.
    (cond_some (starts_with nat_eq text begin_text) (drop (length begin_text) text) rest
    (sym (behind_is begin_text text) ∙ stands)).0)

-- a row that is not empty begins as each frame does
pub row_opens : (text : List ℕ) → IsFrameRow text → false ≡ eqb (length text) 0
    → starts_with nat_eq text begin_text ≡ true
row_opens text r some =
    let b = begins text r some in frame_parts text b.size b.first (λ h head keeps len fits. header_begins text h head)

-- what its header says of a row, where it has one
abbrev pub Reads : List ℕ → Option FrameHeader → Type 0
Reads text None = frames text ≡ []
Reads text (Some h) =
    (0 < frame_length h) × (frame_length h ≤ length text)
    × (frames text ≡ take (frame_length h) text ∷ frames (drop (frame_length h) text))
    × IsFrameRow (drop (frame_length h) text)

pub reads : (text : List ℕ) → IsFrameRow text → false ≡ eqb (length text) 0 → (o : Option FrameHeader) → o ≡ header text
    → Reads text o
reads text r some o e =
    let b = begins text r some in
    let within = frame_within text b.size b.first in
    let first = frames_frame text b.size b.first (omega (arith, within.0)) in
    frame_parts text b.size b.first (λ c head keeps len fits.
    subst (Reads text) (sym (e ∙ head))
    (subst (λ (n : ℕ). (0 < n) × (n ≤ length text) × (frames text ≡ take n text ∷ frames (drop n text))
    × IsFrameRow (drop n text)) (sym len)
    (omega (arith, within.0), within.1, first, b.behind)))
