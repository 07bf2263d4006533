use Rattle.std.proofs.Common.{◌≡◌, ◌-◌, ◌≤◌, true, drop, length, is_some}
use Rattle.fix_wire_frames.specs.Fields.{fields_of_body}
use Rattle.fix_wire_frames.specs.code.Scans.{value_of}
use Rattle.fix_wire_frames.specs.code.Marked.{IsMarked}
use Rattle.fix_wire_frames.proofs.table.value_in.Given as goal

abbrev pub invariant-loop-rest : goal.invariant-loop-rest
invariant-loop-rest l =
    (l.rest ≤ length l.text) × IsMarked l.text l.rest l.marks × (is_some (fields_of_body (drop l.rest l.text)) ≡ true)
    × (value_of l.tag (drop l.rest l.text) ≡ value_of l.tag l.text)

abbrev pub decreases-loop-rest : goal.decreases-loop-rest
decreases-loop-rest l = length l.text - l.rest
