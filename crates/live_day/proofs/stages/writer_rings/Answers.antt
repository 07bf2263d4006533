use Rattle.std.proofs.Common.{rules}
use Rattle.gate_link_stages.specs.Posting.{posted}
use Rattle.gate_link_sessions.proofs.inboxes.OneMore.{idle_snoc}
use Rattle.live_day.proofs.PostPairs.{posts_snoc, open_snoc}
use Rattle.live_day.proofs.stages.writer_rings.Goals as goal

pub loop-s-preserved : goal.loop-s-preserved
loop-s-preserved g c =
    let was = c.loop-s.invariant in
    let made = c.in-Ok-post_ring.ensures in
    record {
      posters = search rules;
      writers = search rules;
      room = search rules;
      pairs = rw (c.push_reserved.ensures.items, c.push_reserved-in-loop-s.ensures.items)
          (posts_snoc c.loop-s.posters.items c.loop-s.writers.items c.in-Ok-post_ring.made.0 c.in-Ok-post_ring.made.1
          was.pairs made.pair);
      none = rw c.push_reserved.ensures.items (idle_snoc posted c.loop-s.posters.items c.in-Ok-post_ring.made.0 was.none
          made.fresh.posted_none);
      open_ = rw c.push_reserved.ensures.items (open_snoc c.loop-s.posters.items c.in-Ok-post_ring.made.0 was.open_
          made.fresh.not_ended);
    }
