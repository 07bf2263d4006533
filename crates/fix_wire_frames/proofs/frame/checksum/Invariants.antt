use Rattle.std.proofs.Common.{◌≡◌, ◌%◌, take, sum}
use Rattle.fix_wire_frames.proofs.frame.checksum.Given as goal

abbrev pub invariant-loop-b : goal.invariant-loop-b
invariant-loop-b l = l.sum ≡ sum (take l.b-index l.text) % 256
