use Rattle.std.proofs.Common.{◌≡◌, ◌+◌, ◌-◌, ◌≤◌, length, drop}
use Rattle.std.specs.List.{position_or_len}
use Rattle.fix_wire_frames.specs.code.Texts.{is_soh}
use Rattle.fix_wire_frames.specs.code.Marked.{IsMarked}
use Rattle.fix_wire_frames.proofs.marks.next_soh.Given as goal

abbrev pub invariant-loop-marks : goal.invariant-loop-marks
invariant-loop-marks l =
    (l.at ≤ length l.text) × IsMarked l.text l.at l.marks
    × (l.at + position_or_len is_soh (drop l.at l.text) ≡ l.from + position_or_len is_soh (drop l.from l.text))

abbrev pub decreases-loop-marks : goal.decreases-loop-marks
decreases-loop-marks l = length l.text + 64 - l.marks.next
