use Rattle.std.proofs.Common.{◌≡◌, ◌≤◌, ◌+◌, drop, vec_len, vec_capacity}
use Rattle.std.specs.Vec.Iter.{into_iter_items, into_iter_len}
use Rattle.live_shared.specs.code.Joining.{AreJoined}
use Rattle.live_shared.proofs.joining.join_each.Given as goal

abbrev pub invariant-loop-handle : goal.invariant-loop-handle
invariant-loop-handle g l =
    let done = vec_len l.joined in let rest = l.handle-iterator in record {
      count : done + into_iter_len rest ≡ vec_len l.fn.handles;
      left : into_iter_items rest ≡ drop done l.fn.handles.items;
      room : vec_len l.fn.handles ≤ vec_capacity l.joined;
      kept : AreJoined g.P.Promise l.fn.handles.items l.joined.items;
    }
