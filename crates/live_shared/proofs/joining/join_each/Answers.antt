use Rattle.std.proofs.Common.{rules, arith, ◌≡◌, ◌<◌, sym, length, vec_len}
use Rattle.std.specs.Vec.Iter.{into_iter_items}
use Rattle.live_shared.proofs.ElementByElement.{next_is}
use Rattle.live_shared.proofs.Joined.{joined_snoc}
use Rattle.live_shared.proofs.joining.join_each.Goals as goal

pub loop-handle-init : goal.loop-handle-init
loop-handle-init g c =
    let none : vec_len c.args.room ≡ 0 = c.requires.0 in
    let gives = c.into_iter-handle-iterator.ensures.into_iter_gives in
    let n = c.args.room.ok.0 in
    record {
      count = omega (arith, none, gives.1);
      left = rw none gives.0;
      room = c.requires.1;
      kept = λ s h r below. absurd (omega (arith, none, n));
    }

pub loop-handle-preserved : goal.loop-handle-preserved
loop-handle-preserved g c =
    let was = c.loop-handle.invariant in
    let steps = c.in-Some.ensures.steps in
    let joined = c.loop-handle.joined in
    let handle = c.in-Some.handle in
    let hs = c.args.handles.items in
    let n : length joined.items ≡ vec_len joined = sym joined.ok.0 in
    let all : length hs ≡ vec_len c.args.handles = sym c.args.handles.ok.0 in
    let here : vec_len joined < length hs = omega (arith, was.count, steps.1) in
    let next = next_is hs (into_iter_items c.loop-handle.handle-iterator) (into_iter_items c.next.new.self) handle
    (vec_len joined) here was.left steps.0 in
    record {
      count = search rules;
      left = rw c.push_reserved.ensures.len next.1;
      room = search rules;
      kept = rw c.push_reserved.ensures.items (joined_snoc g.P.Promise hs joined.items c.join.result handle (rw n here)
          was.kept (rw n next.0) c.join.ensures);
    }
