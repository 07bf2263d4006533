use Rattle.std.proofs.Common.{◌≡◌, true, take, min}
use Rattle.std.specs.Char.{is_ascii_digit}
use Rattle.std.specs.List.{list_all}
use Rattle.fix_wire_values.specs.Digits.{number_of}
use Rattle.fix_wire_values.proofs.values.limited_digits.Given as goal

abbrev pub invariant-loop-b : goal.invariant-loop-b
invariant-loop-b l =
    (list_all is_ascii_digit (take l.b-index l.text) ≡ true)
    × (l.value ≡ min (number_of (take l.b-index l.text)) 1000000000)
