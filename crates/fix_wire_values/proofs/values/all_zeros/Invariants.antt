use Rattle.std.proofs.Common.{◌≡◌, true, take}
use Rattle.std.specs.List.{list_all}
use Rattle.fix_wire_values.specs.code.Digits.{is_zero}
use Rattle.fix_wire_values.proofs.values.all_zeros.Given as goal

abbrev pub invariant-loop-b : goal.invariant-loop-b
invariant-loop-b l = list_all is_zero (take l.b-index l.text) ≡ true
