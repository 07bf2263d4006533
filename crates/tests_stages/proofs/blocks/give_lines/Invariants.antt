use Rattle.std.proofs.Common.{◌≡◌, false}
use Rattle.tests_stages.proofs.blocks.give_lines.Given as goal

abbrev pub invariant-loop : goal.invariant-loop
invariant-loop g l = l.sink.ended ≡ false
