-- Which bytes a framer keeps: those from the first place on at which a frame stands or may begin.
use Rattle.std.specs.Prelude.{ℕ, List, [], ◌∷◌, Option, Some, None, drop, if◌then◌else◌}
use Rattle.fix_wire_frames.specs.Frames.{frame_at, may_begin}

-- the first of a list
abbrev pub first_frame : List (List ℕ) → Option (List ℕ)
first_frame [] = None
first_frame (x ∷ xs) = Some x

-- the bytes from the first place on at which a frame stands or may still begin
abbrev pub from_first_start : List ℕ → List ℕ
from_first_start [] = []
from_first_start (b ∷ bs) = elim (frame_at (b ∷ bs)) [
  | Some n ↦ b ∷ bs
  | None ↦ if may_begin (b ∷ bs) then b ∷ bs else from_first_start bs
]

abbrev pub past_frame : Option ℕ → List ℕ → List ℕ
past_frame None text = text
past_frame (Some n) text = drop n text

-- the same, without the frame that stands there
abbrev pub after_first_frame : List ℕ → List ℕ
after_first_frame held = past_frame (frame_at (from_first_start held)) (from_first_start held)
