use Rattle.std.proofs.Common.{arith, take, drop, length, ◌≤◌, ◌-◌}
use Rattle.std.proofs.lemmas.List.{length-take, length-drop}
use Rattle.gate_link_stages.specs.Posting.{posted}
use Rattle.live_matching.proofs.Posters.{same_poster_trans, pieces_join, tail_is}
use Rattle.live_matching.proofs.posting.post_all.Goals as goal

pub loop-preserved-in-Posted : goal.loop-preserved-in-Posted
loop-preserved-in-Posted g c =
    let was = c.loop.invariant in
    let step = c.in-Posted.ensures.post in
    let k = c.in-Posted.n in
    let bytes = c.args.bytes.now in
    let rest = take (length bytes - c.loop.done) (drop c.loop.done bytes) in
    let few : k ≤ length rest = omega (arith, step.1) in
    let m = length-take (length bytes - c.loop.done) (drop c.loop.done bytes) in
    record {
      same = same_poster_trans c.args.poster.now c.loop.poster c.post_many.new.self was.same c.in-Posted.ensures.ring;
      open_ = step.3;
      within = omega (arith, was.within, few, m, length-drop c.loop.done bytes);
      gave = pieces_join (posted c.args.poster.now) (posted c.loop.poster) (posted c.post_many.new.self) bytes rest
          c.loop.done k was.within (tail_is bytes c.loop.done) few was.gave step.2;
    }
