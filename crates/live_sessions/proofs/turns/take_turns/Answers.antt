use Rattle.std.proofs.Common.{rules, sym, subst, List}
use mathlib.Core.List.{IsPrefix}
use Rattle.spread_rules.specs.declared.event.Entry.{Entry}
use Rattle.gate_link.specs.Links.{SameLink, journal_of}
use Rattle.gate_link.proofs.links.SeveralCalls.{prefix_trans, same_link_refl, same_link_trans}
use Rattle.gate_link_stages.specs.Feeding.{given}
use Rattle.live_sessions.proofs.GivenOn.{same_feeder_trans}
use Rattle.live_sessions.proofs.turns.take_turns.Goals as goal
use Rattle.live_sessions.proofs.turns.take_turns.Goals.{After-turn_each}

linked : (g : _) (c : After-turn_each g) → SameLink c.args.sequencer.now c.turn_each.new.sequencer
linked g c = same_link_trans c.args.sequencer.now c.loop.sequencer c.turn_each.new.sequencer c.loop.invariant.link
    c.turn_each.ensures.link

-- what was given is a beginning of the journal, also after it has grown
given_on : (g : _) (c : After-turn_each g) → IsPrefix (given c.loop.feeder) (journal_of c.turn_each.new.sequencer)
given_on g c = prefix_trans (given c.loop.feeder) (journal_of c.loop.sequencer) (journal_of c.turn_each.new.sequencer)
    c.loop.invariant.prefix c.turn_each.ensures.grown

pub returns-in-AllDone-clause-link : goal.returns-in-AllDone-clause-link
returns-in-AllDone-clause-link g c = linked g (goal.at.returns-in-AllDone-clause-link g c).After-turn_each

pub returns-in-AllDone-clause-prefix : goal.returns-in-AllDone-clause-prefix
returns-in-AllDone-clause-prefix g c = given_on g (goal.at.returns-in-AllDone-clause-prefix g c).After-turn_each

pub returns-in-Full-clause-link : goal.returns-in-Full-clause-link
returns-in-Full-clause-link g c = linked g (goal.at.returns-in-Full-clause-link g c).After-turn_each

pub returns-in-Full-clause-prefix : goal.returns-in-Full-clause-prefix
returns-in-Full-clause-prefix g c = given_on g (goal.at.returns-in-Full-clause-prefix g c).After-turn_each

pub give-requires : goal.give-requires
give-requires g c = subst (λ (j : List Entry). IsPrefix (given c.loop.feeder) j) (sym c.journal.ensures.journal)
    (given_on g (goal.at.give-requires g c).After-turn_each)

pub loop-preserved : goal.loop-preserved
loop-preserved g c = record {
  link = linked g (goal.at.loop-preserved g c).After-turn_each;
  ring = same_feeder_trans c.args.feeder.now c.loop.feeder c.give.new.self c.loop.invariant.ring c.give.ensures.ring;
  prefix = subst (λ (j : List Entry). IsPrefix (given c.give.new.self) j) c.journal.ensures.journal
      c.give.ensures.prefix;
}

pub loop-init : goal.loop-init
loop-init g c = record { link = same_link_refl c.args.sequencer.now; ring = search rules; prefix = c.requires }

pub returns-then-load-clause-link : goal.returns-then-load-clause-link
returns-then-load-clause-link g c = c.loop.invariant.link

pub returns-then-load-clause-turns : goal.returns-then-load-clause-turns
returns-then-load-clause-turns g c = tt

pub returns-then-load-clause-ring : goal.returns-then-load-clause-ring
returns-then-load-clause-ring g c = c.loop.invariant.ring

pub returns-then-load-clause-prefix : goal.returns-then-load-clause-prefix
returns-then-load-clause-prefix g c = c.loop.invariant.prefix

pub returns-in-AllDone-clause-turns : goal.returns-in-AllDone-clause-turns
returns-in-AllDone-clause-turns g c = c.in-AllDone.ensures.round

pub returns-in-AllDone-clause-ring : goal.returns-in-AllDone-clause-ring
returns-in-AllDone-clause-ring g c = c.loop.invariant.ring

pub returns-in-Full-clause-turns : goal.returns-in-Full-clause-turns
returns-in-Full-clause-turns g c = c.in-Full.ensures.round

pub returns-in-Full-clause-ring : goal.returns-in-Full-clause-ring
returns-in-Full-clause-ring g c = c.loop.invariant.ring
