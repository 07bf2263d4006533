use Rattle.gate_link.specs.Links.{SameLink}
use Rattle.tests_stages.proofs.link.threads.turn_each.Given as goal

abbrev pub invariant-loop-s : goal.invariant-loop-s
invariant-loop-s g l = SameLink l.initial.sequencer l.sequencer
