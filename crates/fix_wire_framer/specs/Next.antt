-- What a framer answers.
use Rattle.std.specs.Prelude.{ℕ, List, Option, Some, None}
use Rattle.fix_wire_framer.specs.declared.framer.Next.{Next}
use Rattle.fix_wire_framer.specs.declared.framer.Next.TheVariants.{Message, Need}

-- the frame of the message, where one stands
abbrev pub frame_in : Next → Option (List ℕ)
frame_in (Message m) = Some m.frame.now
frame_in Need = None
