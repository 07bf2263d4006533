use Rattle.std.proofs.Common.{rules}
use Rattle.live_sessions.proofs.GivenOn.{same_feeder_trans}
use Rattle.gate_link_stages.specs.Feeding.{SameFeeder}
use Rattle.live_sessions.proofs.turns.feed_rest.Goals as goal
use Rattle.live_sessions.proofs.turns.feed_rest.Goals.{After-feed}

ring : (g : _) (c : After-feed g) → SameFeeder c.args.feeder.now c.feed.new.feeder
ring g c = same_feeder_trans c.args.feeder.now c.loop.feeder c.feed.new.feeder c.loop.invariant.ring c.feed.ensures.ring

pub returns-in-Level-clause-ring : goal.returns-in-Level-clause-ring
returns-in-Level-clause-ring g c = ring g (goal.at.returns-in-Level-clause-ring g c).After-feed

pub returns-in-Level-clause-whole : goal.returns-in-Level-clause-whole
returns-in-Level-clause-whole g c all = c.feed.ensures.whole c.in-Level.is

pub returns-in-Ended-clause-ring : goal.returns-in-Ended-clause-ring
returns-in-Ended-clause-ring g c = ring g (goal.at.returns-in-Ended-clause-ring g c).After-feed

pub returns-in-Ended-clause-whole : goal.returns-in-Ended-clause-whole
returns-in-Ended-clause-whole g c all = absurd (cc all)

pub returns-then-load-clause-whole : goal.returns-then-load-clause-whole
returns-then-load-clause-whole g c all = absurd (cc all)

pub loop-preserved-in-Gave : goal.loop-preserved-in-Gave
loop-preserved-in-Gave g c = record {
  ring = ring g (goal.at.loop-preserved-in-Gave g c).After-feed;
  prefix =
      c.feed.ensures.prefix;
}

pub loop-preserved : goal.loop-preserved
loop-preserved g c = record { ring = ring g (goal.at.loop-preserved g c).After-feed; prefix = c.feed.ensures.prefix }

pub feed-requires : goal.feed-requires
feed-requires g c = c.loop.invariant.prefix

pub loop-init : goal.loop-init
loop-init g c = record { ring = search rules; prefix = c.requires }

pub returns-in-Level-clause-prefix : goal.returns-in-Level-clause-prefix
returns-in-Level-clause-prefix g c = c.feed.ensures.prefix

pub returns-in-Ended-clause-prefix : goal.returns-in-Ended-clause-prefix
returns-in-Ended-clause-prefix g c = c.feed.ensures.prefix

pub returns-then-load-clause-ring : goal.returns-then-load-clause-ring
returns-then-load-clause-ring g c = c.loop.invariant.ring

pub returns-then-load-clause-prefix : goal.returns-then-load-clause-prefix
returns-then-load-clause-prefix g c = c.loop.invariant.prefix
