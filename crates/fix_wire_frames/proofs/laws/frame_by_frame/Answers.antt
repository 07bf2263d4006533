use Rattle.std.proofs.Common.{arith}
use Rattle.fix_wire_frames.proofs.framing.FrontStays.{frame_within}
use Rattle.fix_wire_frames.proofs.framing.FramesHeld.{frames_frame, frames_partial, frames_nothing}
use Rattle.fix_wire_frames.proofs.laws.frame_by_frame.Goals as goal

pub returns-clause-frame : goal.returns-clause-frame
returns-clause-frame c input n e = frames_frame input n e (omega (arith, (frame_within input n e).0))

pub returns-clause-unfinished : goal.returns-clause-unfinished
returns-clause-unfinished c = frames_partial

pub returns-clause-garbled : goal.returns-clause-garbled
returns-clause-garbled c = frames_nothing
