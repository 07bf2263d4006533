use Rattle.std.proofs.Common.{◌≡◌, drop}
use Rattle.std.specs.List.{starts_with}
use Rattle.std.specs.Prelude.{nat_eq}
use Rattle.fix_wire_frames.proofs.frame.has_front.Given as goal

abbrev pub invariant-loop-i : goal.invariant-loop-i
invariant-loop-i l = starts_with nat_eq (drop l.i l.text) (drop l.i l.word) ≡ starts_with nat_eq l.text l.word
