use Rattle.std.proofs.Common.{◌≡◌, ℕ, ◌<◌, ◌≤◌, get_or, eqb, take, true, false}
use Rattle.std.specs.Char.{is_ascii_digit}
use Rattle.std.specs.List.{list_all}
use Rattle.fix_wire_values.specs.Digits.{number_of}
use Rattle.fix_wire_frames.proofs.frame.any_tag.Given as goal

abbrev pub invariant-loop-i : goal.invariant-loop-i
invariant-loop-i l =
    (l.i ≤ 9) × ((j : ℕ) → j < l.i → eqb (get_or l.text j 0) 61 ≡ false)
    × (list_all is_ascii_digit (take l.i l.text) ≡ true) × (l.number ≡ number_of (take l.i l.text))
