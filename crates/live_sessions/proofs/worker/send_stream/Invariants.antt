use Rattle.std.proofs.Common.{◌≡◌, ◌≤◌, ◌++◌, length, drop}
use Rattle.fix_session_judging.specs.Streams.{whole}
use Rattle.gate_link_sessions.specs.Gateways.{events_sent, pending_events, SameGateway}
use Rattle.live_sessions.specs.code.Workers.{AreReady}
use Rattle.live_sessions.proofs.worker.send_stream.Given as goal

abbrev pub invariant-loop : goal.invariant-loop
invariant-loop g l = record {
  gate : SameGateway l.initial.gateway l.gateway;
  put : l.put ≤ length l.stream;
  total : events_sent l.gateway ++ pending_events l.gateway (drop l.put l.stream) ≡ whole l.stream;
  ready : AreReady l.most l.gateway l.judged;
}
