use Rattle.std.proofs.Common.{◌≡◌, false, take, eqb}
use Rattle.std.specs.List.{list_any}
use Rattle.fix_session_kinds.proofs.table.is_among.Given as goal

abbrev pub invariant-loop-a : goal.invariant-loop-a
invariant-loop-a l = list_any (λ a. eqb a l.byte) (take l.a-index l.allowed) ≡ false
