use Rattle.std.proofs.Common.{◌≡◌, ◌+◌, ◌≤◌, drop, length}
use Rattle.fix_wire_frames.specs.Frames.{frames}
use Rattle.fix_session_judging.proofs.ahead.count_messages.Given as goal

abbrev pub invariant-loop-count : goal.invariant-loop-count
invariant-loop-count l = (l.place ≤ length l.framer)
    × (l.count + length (frames (drop l.place l.framer)) ≡ length (frames l.framer))
