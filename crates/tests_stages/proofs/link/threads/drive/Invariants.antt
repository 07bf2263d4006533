use Rattle.gate_link_sessions.specs.Gateways.{SameGateway}
use Rattle.tests_stages.proofs.link.threads.drive.Given as goal

abbrev pub invariant-loop : goal.invariant-loop
invariant-loop g l = SameGateway l.initial.gateway l.gateway
