use Rattle.gate_link.specs.Links.{IsLinkOf}
use Rattle.tests_stages.proofs.link.days.expect_acts.Given as goal

abbrev pub invariant-loop-act : goal.invariant-loop-act
invariant-loop-act g l = IsLinkOf l.sequencer l.gateways
