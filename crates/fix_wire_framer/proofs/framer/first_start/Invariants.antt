use Rattle.std.proofs.Common.{◌≡◌, ◌-◌, ◌≤◌, length, drop}
use Rattle.fix_wire_frames.specs.Held.{from_first_start}
use Rattle.fix_wire_framer.proofs.framer.first_start.Given as goal

abbrev pub invariant-loop-at : goal.invariant-loop-at
invariant-loop-at l = (l.at ≤ length l.held) × (from_first_start (drop l.at l.held) ≡ from_first_start l.held)

abbrev pub decreases-loop-at : goal.decreases-loop-at
decreases-loop-at l = length l.initial.held - l.at
