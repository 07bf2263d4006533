use Rattle.std.proofs.Common.{◌≡◌, ◌++◌, map, take, drop}
use Rattle.fix_wire_frames.specs.code.Texts.{soh_for_bar}
use Rattle.intake_lines.proofs.lines.put_field_ends.Given as goal

abbrev pub invariant-loop-byte : goal.invariant-loop-byte
invariant-loop-byte l = l.text ≡ map soh_for_bar (take l.byte-index l.fn.text) ++ drop l.byte-index l.fn.text
