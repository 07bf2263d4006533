use mathlib.Core.List.{IsPrefix}
use Rattle.gate_link_stages.specs.Feeding.{AreFeedPair, given}
use Rattle.tests_stages.proofs.link.ring_ends.expect_entry_acts.Given as goal

abbrev pub invariant-loop-act : goal.invariant-loop-act
invariant-loop-act g l = IsPrefix (given l.feeder) l.journal × AreFeedPair l.feeder l.matcher
