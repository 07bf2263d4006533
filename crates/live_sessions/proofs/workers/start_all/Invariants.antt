use Rattle.std.proofs.Common.{◌≡◌, ◌≤◌, ◌+◌, drop, vec_len, vec_capacity}
use Rattle.std.specs.Vec.Iter.{into_iter_items, into_iter_len}
use Rattle.live_sessions.specs.code.Handing.{AreStarted}
use Rattle.live_sessions.proofs.workers.start_all.Given as goal

abbrev pub invariant-loop-gateway : goal.invariant-loop-gateway
invariant-loop-gateway g l =
    let done = vec_len l.handles in let rest = l.gateway-iterator in record {
      count : done + into_iter_len rest ≡ vec_len l.fn.gateways;
      left : into_iter_items rest ≡ drop done l.fn.gateways.items;
      streams : l.streams.items ≡ drop done l.fn.streams.items;
      room : vec_len l.fn.gateways ≤ vec_capacity l.handles;
      started : AreStarted l.fn.streams.items l.fn.gateways.items l.handles.items;
    }
