-- Where frames stand among the bytes that are held, and the places that follow frames.
use Rattle.std.specs.Prelude.{◌≡◌, ℕ, ◌<◌, ◌≤◌, List, Option, Some, None, length, drop, slice_range}
use Rattle.fix_wire_frames.specs.declared.table.FrameTable.{FrameTable}
use Rattle.fix_wire_frames.specs.Frames.{IsFrame}
use Rattle.fix_wire_frames.specs.Held.{after_first_frame}
use Rattle.fix_wire_frames.specs.code.Tabled.{IsTableOf}
use Rattle.fix_wire_framer.specs.declared.framer.FramePlace.{FramePlace}
use Rattle.fix_wire_framer.specs.declared.framer.Look.{Look}
use Rattle.fix_wire_framer.specs.declared.framer.Look.TheVariants.{Message, Need}
use Rattle.fix_wire_framer.specs.Pieces.{SplitsInto}

-- the frame of the message that a look finds, where one stands
abbrev pub frame_from : Look → Option (List ℕ)
frame_from (Message m n) = Some m.frame.now
frame_from Need = None

-- the place after it
abbrev pub place_after : Look → Option ℕ
place_after (Message m n) = Some n
place_after Need = None

-- the bytes from its start to its end
abbrev pub frame_of : List ℕ → FramePlace → List ℕ
frame_of held p = slice_range held p.start p.end

-- a lawful frame stands there, and this is its table
pub record IsFramePlace (held : List ℕ) (p : FramePlace) (table : FrameTable) : Type 0 where
  pub order : p.start ≤ p.end
  pub within : p.end ≤ length held
  pub lawful : IsFrame (frame_of held p)
  pub tabled : IsTableOf (frame_of held p) table

-- the first frame from a place on ends at a later one
abbrev pub EndsFirst : List ℕ → ℕ → ℕ → Type 0
EndsFirst held at n =
    (at < n) × (n ≤ length held) × (drop n held ≡ after_first_frame (drop at held))

-- before a place one frame stands, or several
abbrev pub FollowsFrames : List ℕ → ℕ → Type 0
FollowsFrames held at =
    (at ≤ length held)
    × ((fs : List (List ℕ)) × (0 < length fs) × SplitsInto held fs (drop at held))
