use Rattle.std.proofs.Common.{◌≡◌, ◌∙◌, arith, drop, rules}
use Rattle.fix_session_judging.specs.Streams.{whole}
use Rattle.gate_link_sessions.specs.Gateways.{SameGateway}
use Rattle.live_sessions.specs.code.Workers.{sent_and_pending}
use Rattle.live_sessions.proofs.SentAndOwed.{same_gateway_trans, sent_of, stepped, unused_owes}
use Rattle.live_sessions.proofs.worker.send_stream.Goals as goal
use Rattle.live_sessions.proofs.worker.send_stream.Goals.{After-step_or_end}

-- after the step, the same of what is left as before
after : (g : _) (c : After-step_or_end g)
    → SameGateway c.args.gateway.now c.step_or_end.new.gateway
    × (sent_and_pending c.step_or_end.new.gateway (drop c.loop.put c.args.stream.now) ≡ whole c.args.stream.now)
after g c = stepped c.args.gateway.now c.loop.gateway c.see-judged.new.gateway c.step_or_end.new.gateway
    c.args.stream.now c.loop.put (whole c.args.stream.now)
    c.loop.invariant.gate c.loop.invariant.total c.see-judged.ensures.kept c.step_or_end.ensures.kept

pub returns-then-load : goal.returns-then-load
returns-then-load g c =
    let was = c.loop.invariant in
    record {
      sent = sent_of c.args.stream.now c.args.gateway.now c.loop.gateway (drop c.loop.put c.args.stream.now)
          was.gate was.total;
    }

pub returns-in-Closed : goal.returns-in-Closed
returns-in-Closed g c =
    let now = after g (goal.at.returns-in-Closed g c).After-step_or_end in
    record {
      sent = sent_of c.args.stream.now c.args.gateway.now c.step_or_end.new.gateway
          (drop c.loop.put c.args.stream.now) now.0 now.1;
    }

pub loop-init : goal.loop-init
loop-init g c = record {
  gate = search rules;
  put = omega arith;
  total = unused_owes c.args.stream.now c.args.gateway.now c.requires.unused;
  ready = tt;
}

pub loop-preserved-in-Sent : goal.loop-preserved-in-Sent
loop-preserved-in-Sent g c =
    let now = after g (goal.at.loop-preserved-in-Sent g c).After-step_or_end in
    record { gate = now.0; put = c.loop.invariant.put; total = now.1; ready = tt }

pub loop-preserved-in-Need : goal.loop-preserved-in-Need
loop-preserved-in-Need g c =
    let now = after g (goal.at.loop-preserved-in-Need g c).After-step_or_end in
    let put = c.put_bytes-put.ensures in
    record {
      gate = same_gateway_trans c.args.gateway.now c.step_or_end.new.gateway c.put_bytes-put.new.gateway now.0
          put.kept.0;
      put = put.within;
      total = put.kept.1 ∙ now.1;
      ready = tt;
    }

pub loop-preserved : goal.loop-preserved
loop-preserved g c =
    let now = after g (goal.at.loop-preserved g c).After-step_or_end in
    record { gate = now.0; put = c.loop.invariant.put; total = now.1; ready = c.step_or_end.ensures.ready c.in-Full.is }

pub put_bytes-put-requires : goal.put_bytes-put-requires
put_bytes-put-requires g c = c.loop.invariant.put

pub slice_bounds-step_or_end-start : goal.slice_bounds-step_or_end-start
slice_bounds-step_or_end-start g c = omega (arith, c.loop.invariant.put)
