use Rattle.std.proofs.Common.{◌≡◌, ◌++◌, take}
use Rattle.text_fills.specs.code.Fills.{fill_lines}
use Rattle.text_fills.proofs.fills.put_fills.Given as goal

abbrev pub invariant-loop-fill : goal.invariant-loop-fill
invariant-loop-fill g l = l.out.items ≡ l.initial.out.items ++ fill_lines l.rulebook (take l.fill-index l.fills)
