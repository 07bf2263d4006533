use Rattle.gate_link_stages.specs.Feeding.{SameMatcher}
use Rattle.tests_stages.proofs.link.ring_ends.are_taken.Given as goal

abbrev pub invariant-loop-number : goal.invariant-loop-number
invariant-loop-number g l = SameMatcher l.initial.matcher l.matcher
