use Rattle.gate_link_stages.specs.Posting.{ArePostPair}
use Rattle.tests_stages.proofs.link.ring_ends.expect_byte_acts.Given as goal

abbrev pub invariant-loop-act : goal.invariant-loop-act
invariant-loop-act g l = ArePostPair l.poster l.writer
