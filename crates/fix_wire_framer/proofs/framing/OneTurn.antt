-- What one turn over a framer leaves.
use Rattle.std.proofs.Common.{◌≡◌, ℕ, ◌<◌, ◌≤◌, Bool, true, false, List, [], ◌∷◌, ◌++◌, length, take, drop, Option, Some, None, is_some, refl, sym, ap, ◌∙◌, subst, arith}
use Rattle.std.specs.Bool.{OnTrue}
use Rattle.std.proofs.lemmas.List.{append-nil, append_assoc, length-drop, take-append-drop}
use Rattle.fix_wire_frames.specs.Frames.{frames, frame_at}
use Rattle.fix_wire_frames.specs.Held.{first_frame, from_first_start, past_frame, after_first_frame}
use Rattle.fix_wire_framer.specs.Pieces.{SplitsInto, IsDrained}
use Rattle.fix_wire_frames.proofs.framing.FrontStays.{frame_within}
use Rattle.fix_wire_frames.proofs.framing.FramesHeld.{scan_start, start_frames, no_frames, pass_law, start_shorter}

pub no_first : (fs : List (List ℕ)) → first_frame fs ≡ None → fs ≡ []
no_first [] e = refl
no_first (f ∷ fs) e = cc

pub on_true : {P : Type 0} (b : Bool) → b ≡ true → OnTrue b P → P
on_true true e p = p
on_true false e p = cc

past_len : (held frame : List ℕ) → first_frame (frames held) ≡ Some frame
    → length (after_first_frame held) < length held
past_len held frame e = by_frame (frame_at (from_first_start held)) refl
  where
    by_frame : (o : Option ℕ) → frame_at (from_first_start held) ≡ o
        → length (past_frame o (from_first_start held)) < length held
    by_frame None h = let none : first_frame (frames held) ≡ None = ap first_frame (no_frames held h) in cc
    by_frame (Some n) h =
        let within = frame_within (from_first_start held) n h in
        let len = length-drop n (from_first_start held) in
        let start = start_shorter held in
        omega (arith, within.0, within.1, len, start)

pub need_leaves : (old mid : List ℕ) → mid ≡ from_first_start old → first_frame (frames old) ≡ None
    → length (from_first_start old) < 4124 → SplitsInto old [] mid × IsDrained mid
need_leaves old mid e none room = (
  (λ more. sym (scan_start old more) ∙ ap (λ t. frames (t ++ more)) (sym e)),
  (ap frames e ∙ start_frames old ∙ no_first (frames old) none, subst (λ t. length t < 4124) (sym e) room),
)

pub passed_leaves : (old mid new frame : List ℕ) (b : Bool) → mid ≡ from_first_start old
    → first_frame (frames old) ≡ Some frame → b ≡ is_some (first_frame (frames mid))
    → OnTrue b (new ≡ after_first_frame mid) → SplitsInto old (frame ∷ []) new × (length new < length old)
passed_leaves old mid new frame b e first stands passed =
    let first_mid : first_frame (frames mid) ≡ Some frame = ap (λ t. first_frame (frames t)) e
    ∙ ap first_frame (start_frames old) ∙ first in
    let new_is : new ≡ after_first_frame mid = on_true b (stands ∙ ap is_some first_mid) passed in
    let less = past_len mid frame first_mid in
    let shorter : length mid ≤ length old = subst (λ t. length t ≤ length old) (sym e) (start_shorter old) in
    let same : length new ≡ length (after_first_frame mid) = ap length new_is in (
      (λ more. sym (scan_start old more) ∙ ap (λ t. frames (t ++ more)) (sym e) ∙ pass_law mid more frame first_mid
          ∙ ap (λ t. frame ∷ frames (t ++ more)) (sym new_is)),
      omega (arith, less, shorter, same),
    )
