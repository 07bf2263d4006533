use Rattle.std.proofs.Common.{◌-◌, ◌≤◌, take}
use Rattle.fix_wire_frames.specs.code.Marked.{IsMarked}
use Rattle.fix_wire_frames.proofs.fields.TableOfFields.{IsTabled}
use Rattle.fix_wire_frames.proofs.table.are_fields.Given as goal

abbrev pub invariant-loop-rest : goal.invariant-loop-rest
invariant-loop-rest l =
    (l.rest ≤ l.count) × IsMarked l.text l.rest l.marks
    × IsTabled (take l.count l.text) (record { places = l.table.places; present = l.present }) l.rest

abbrev pub decreases-loop-rest : goal.decreases-loop-rest
decreases-loop-rest l = l.count - l.rest
