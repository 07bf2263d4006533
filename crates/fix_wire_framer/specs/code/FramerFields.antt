-- How a framer keeps the bytes that it holds.
-- Words of the code alone.
use Rattle.std.specs.Prelude.{◌≡◌, ◌≢◌, ℕ, ◌≤◌, List, Some, slice_range}
use Rattle.fix_wire_framer.specs.declared.framer.TheConstants.{BUFFER_BYTES}
use Rattle.fix_wire_framer.specs.declared.framer.Framer.TheInside.{Inside}
use Rattle.fix_wire_frames.specs.Frames.{frame_at}
use Rattle.fix_wire_frames.specs.code.Tabled.{IsTableOf}

abbrev pub held_of : Inside → List ℕ
held_of f = slice_range f.buffer f.start f.end

pub record IsKept (f : Inside) : Type 0 where
  pub order : f.start ≤ f.end
  pub room : f.end ≤ BUFFER_BYTES
  -- A front length other than 0 is that of the frame that stands at the front.
  pub known : f.front_length ≢ 0 → frame_at (held_of f) ≡ Some f.front_length
  pub tabled : f.front_length ≢ 0 → IsTableOf (held_of f) f.table
