use Rattle.gate_link.specs.Links.{SameLink}
use Rattle.tests_stages.proofs.link.threads.take_turns.Given as goal

abbrev pub invariant-loop : goal.invariant-loop
invariant-loop g l = SameLink l.initial.sequencer l.sequencer
