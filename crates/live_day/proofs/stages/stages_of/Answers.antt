use Rattle.std.proofs.Common.{arith}
use Rattle.live_matching.specs.declared.posting.PostedEntries.{PostedEntries}
use Rattle.live_matching.proofs.OneEntryMore.{posted_none}
use Rattle.live_day.proofs.stages.stages_of.Goals as goal

pub returns-clause-ready : goal.returns-clause-ready
returns-clause-ready g c =
    let linked = c.in-Ok.ensures in
    let fed = c.in-Ok-feed_ring.ensures in
    let rings = c.in-Ok-writer_rings.ensures in
    let reported = c.in-Ok-with_capacity.reported in
    let ps = c.in-Ok-writer_rings.made.posters in
    let ws = c.in-Ok-writer_rings.made.writers in
    let gs = c.in-Ok.made.0 in
    let p : PostedEntries g.row.A.Denot = record { reported = reported; posters = ps } in
    record {
      fresh = linked.gateways.1;
      pairs = linked.pairs;
      room = linked.sequencer.1;
      feed = fed.pair;
      given_none = fed.fresh.given_none;
      unfed = record {
        taken_none = fed.fresh.taken_none;
        not_over = fed.fresh.not_over;
        posted_none = posted_none p c.in-Ok-with_capacity.ensures.start rings.none
            (omega (arith, ps.ok.0, rings.count.0, linked.ranges.0.1));
        rings = record { open_ = rings.open; few = omega (arith, ps.ok.0, rings.count.0, linked.ranges.0.1) };
      };
      posts = rings.pairs;
      writer_count = omega (arith, ws.ok.0, rings.count.1, gs.ok.0, linked.gateways.0);
    }
