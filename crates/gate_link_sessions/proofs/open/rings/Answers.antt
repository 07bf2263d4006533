use Rattle.std.proofs.Common.{rules, arith, refl, ◌≡◌, ◌∙◌, [], length, sym}
use Rattle.gate_link_sessions.specs.Gateways.{events_sent, free_slots}
use Rattle.gate_link_sessions.specs.Inboxes.{taken, IsInboxOf}
use Rattle.gate_link_sessions.specs.Fresh.{IsFresh}
use Rattle.gate_link_sessions.proofs.inboxes.OneMore.{no_pairs, none_fresh, pairs_snoc, fresh_snoc, idle_snoc}
use Rattle.gate_link_sessions.proofs.open.rings.Goals as goal

pub loop-s-preserved : goal.loop-s-preserved
loop-s-preserved g c =
    let was = c.loop-s.invariant in
    let g = c.new-in-loop-s.result in
    let l = c.new-in-loop-s-2.result in
    let made = c.new-in-loop-s.ensures in
    let ring = c.in_ok-producer.ensures in
    let pair : IsInboxOf l g = rw (made.parts.1, c.new-in-loop-s-2.ensures) ring.pair in
    let none : taken l ≡ [] = rw (c.new-in-loop-s-2.ensures, ring.consumer.0) in
    let at : length c.loop-s.gateways.items ≡ c.loop-s.s = sym c.loop-s.gateways.ok.0 ∙ was.gateways.0 in
    let sent_none : events_sent g ≡ [] = rw (made.parts.1, ring.producer.0) in
    let room : free_slots g ≡ c.args.ring = rw (made.parts.1, ring.producer.1) in
    let fresh : IsFresh c.args.ring (length c.loop-s.gateways.items) g =
    record {
      session = made.parts.0 ∙ sym at;
      sent = sent_none;
      room = room;
      state = made.state.0;
      held =
          made.state.1;
    } in
    record {
      gateways = search rules;
      inboxes = search rules;
      pairs = rw (c.push_reserved.ensures.items, c.push_reserved-in-loop-s.ensures.items)
          (pairs_snoc c.loop-s.inboxes.items c.loop-s.gateways.items l g was.pairs pair);
      fresh = rw (c.push_reserved.ensures.items) (fresh_snoc c.args.ring c.loop-s.gateways.items g was.fresh fresh);
      idle = rw (c.push_reserved-in-loop-s.ensures.items) (idle_snoc taken c.loop-s.inboxes.items l was.idle none);
    }

pub loop-s-init : goal.loop-s-init
loop-s-init g c =
    let gateways = c.in_ok-gateways.ensures in
    let inboxes = c.in_ok-inboxes.ensures in record {
      gateways = (gateways.len, gateways.capacity);
      inboxes = (inboxes.len, inboxes.capacity);
      pairs = rw (inboxes.items, gateways.items) no_pairs;
      fresh = rw gateways.items (none_fresh c.args.ring);
      idle = rw inboxes.items (λ s. refl);
    }

pub push_reserved-requires : goal.push_reserved-requires
push_reserved-requires g c = omega (arith, c.loop-s.invariant.gateways.0, c.loop-s.invariant.gateways.1)

pub push_reserved-requires-in-loop-s : goal.push_reserved-requires-in-loop-s
push_reserved-requires-in-loop-s g c = omega (arith, c.loop-s.invariant.inboxes.0, c.loop-s.invariant.inboxes.1)

pub returns-clause-pairs : goal.returns-clause-pairs
returns-clause-pairs g c = c.loop-s.invariant.pairs

pub returns-clause-fresh : goal.returns-clause-fresh
returns-clause-fresh g c = c.loop-s.invariant.fresh

pub returns-clause-idle : goal.returns-clause-idle
returns-clause-idle g c = c.loop-s.invariant.idle
