use Rattle.std.proofs.Common.{rules, arith, ◌≡◌, ◌<◌, sym, length, vec_len}
use Rattle.std.specs.Vec.Iter.{into_iter_items}
use Rattle.live_shared.proofs.ElementByElement.{next_is}
use Rattle.live_writers.proofs.Writers.{writing_snoc}
use Rattle.live_writers.proofs.writing.start_writers.Goals as goal

pub loop-writer-init : goal.loop-writer-init
loop-writer-init g c =
    let none : vec_len c.args.writing.handles ≡ 0 = c.requires.room.0 in
    let gives = c.into_iter-writer-iterator.ensures.into_iter_gives in
    let n = c.args.writing.handles.ok.0 in
    record {
      count = omega (arith, none, gives.1);
      left = rw none gives.0;
      room = c.requires.room.1;
      started = λ s w h below. absurd (omega (arith, none, n));
    }

pub loop-writer-preserved : goal.loop-writer-preserved
loop-writer-preserved g c =
    let was = c.loop-writer.invariant in
    let steps = c.in-Some.ensures.steps in
    let handles = c.loop-writer.handles in
    let writer = c.in-Some.writer in
    let ws = c.args.writers.items in
    let n : length handles.items ≡ vec_len handles = sym handles.ok.0 in
    let all : length ws ≡ vec_len c.args.writers = sym c.args.writers.ok.0 in
    let here : vec_len handles < length ws = omega (arith, was.count, steps.1) in
    let next = next_is ws (into_iter_items c.loop-writer.writer-iterator) (into_iter_items c.next.new.self) writer
    (vec_len handles) here was.left steps.0 in
    record {
      count = search rules;
      left = rw c.push_reserved.ensures.len next.1;
      room = search rules;
      started = rw c.push_reserved.ensures.items (writing_snoc ws handles.items c.in-Some-start_writer.handle writer
          (rw n here) was.started (rw n next.0) c.in-Some-start_writer.ensures);
    }
