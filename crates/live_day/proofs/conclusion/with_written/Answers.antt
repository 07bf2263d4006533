use Rattle.std.proofs.Common.{arith, ◌≡◌, ◌≢◌, ◌<◌, ◌∙◌, sym, ap, ℕ, Vec, length, vec_len}
use Rattle.std.specs.Vec.Iter.{into_iter_items}
use Rattle.gate_link_sessions.proofs.PartOfASession.{row_at, row_other}
use Rattle.live_writers.specs.code.Writing.{bytes_written, written_at}
use Rattle.live_shared.proofs.ElementByElement.{next_is}
use Rattle.live_day.proofs.JoinedParts.{row_written}
use Rattle.live_day.proofs.conclusion.with_written.Goals as goal

pub loop-one-preserved : goal.loop-one-preserved
loop-one-preserved g c =
    let was = c.loop-one.invariant in
    let steps = c.in-Some.ensures.steps in
    let ws = c.args.written.items in
    let i = c.loop-one.s in
    let one = c.in-Some.one in
    let out = c.loop-one.out.items in
    let all : length ws ≡ vec_len c.args.written = sym c.args.written.ok.0 in
    let here : i < length ws = omega (arith, all, was.count, steps.1) in
    let next = next_is ws (into_iter_items c.loop-one.one-iterator) (into_iter_items c.next.new.self) one i here
    was.left steps.0 in
    let now : c.into_bytes.result.items ≡ written_at ws i = c.into_bytes.ensures
    ∙ (ap bytes_written next.0 ∙ sym (row_at bytes_written ws i one here)) in
    let low : i < length out = omega (arith, c.loop-one.out.ok.0, was.size, c.requires, all, here) in
    record {
      count = omega (arith, was.count, steps.1);
      left = next.1;
      size = was.size;
      done = row_written (λ (v : Vec ℕ g.row.A.Denot). v.items) bytes_written out ws i c.into_bytes.result low was.done
          now;
      others = λ s after.
          let apart : s ≢ i = omega (arith, after) in
          row_other (λ (v : Vec ℕ g.row.A.Denot). v.items) out i c.into_bytes.result s apart
          ∙ was.others s (omega (arith, after));
    }
