-- The frames of a stream that comes in pieces.
use Rattle.std.specs.Prelude.{◌≡◌, ℕ, ◌<◌, List, [], ◌++◌, length}
use Rattle.fix_wire_frames.specs.declared.message.TheConstants.{MAX_FRAME_BYTES}
use Rattle.fix_wire_frames.specs.Frames.{frames}

-- Of these bytes these frames were passed and these bytes are left: whatever follows, the frames of all of it are those
-- that were passed, then those of what is left.
abbrev pub SplitsInto : List ℕ → List (List ℕ) → List ℕ → Type 0
SplitsInto bytes passed left =
    (more : List ℕ) → frames (bytes ++ more) ≡ passed ++ frames (left ++ more)

-- no whole frame is left, and less than the longest
abbrev pub IsDrained : List ℕ → Type 0
IsDrained left = (frames left ≡ []) × (length left < MAX_FRAME_BYTES)
