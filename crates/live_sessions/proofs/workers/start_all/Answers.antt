use Rattle.std.proofs.Common.{rules, arith, ◌≡◌, ◌<◌, ◌∙◌, ℕ, List, ap, refl, sym, length, vec_len, Vec}
use Rattle.std.proofs.lemmas.List.{length-drop}
use Rattle.std.specs.Vec.Iter.{into_iter_items}
use Rattle.gate_link_sessions.specs.Fresh.{IsFresh}
use Rattle.live_shared.proofs.ElementByElement.{next_is}
use Rattle.live_sessions.proofs.StartedWorkers.{first_removed, started_snoc}
use Rattle.live_sessions.proofs.workers.start_all.Goals as goal
use Rattle.live_sessions.proofs.workers.start_all.Goals.{After-remove}

pub loop-gateway-init : goal.loop-gateway-init
loop-gateway-init g c =
    let none : vec_len c.args.workers.handles ≡ 0 = c.requires.room.0 in
    let gives = c.into_iter-gateway-iterator.ensures.into_iter_gives in
    let n = c.args.workers.handles.ok.0 in
    record {
      count = omega (arith, none, gives.1);
      left = rw none gives.0;
      streams = rw none (refl {A = List (Vec ℕ g.row.A.Denot)});
      room = c.requires.room.1;
      started = λ s v d h below. absurd (omega (arith, none, n));
    }

-- there is a gateway in this place
in_gateways : (g : _) (c : After-remove g) → vec_len c.loop-gateway.handles < length c.args.gateways.items
in_gateways g c =
    let was = c.loop-gateway.invariant in
    let steps = c.in-Some.ensures.steps in
    let all : length c.args.gateways.items ≡ vec_len c.args.gateways = sym c.args.gateways.ok.0 in
    omega (arith, was.count, steps.1)

-- and a stream
in_streams : (g : _) (c : After-remove g) → vec_len c.loop-gateway.handles < length c.args.streams.items
in_streams g c =
    let was = c.loop-gateway.invariant in
    let steps = c.in-Some.ensures.steps in
    omega (arith, c.requires.streams, c.args.streams.ok.0, was.count, steps.1)

streams_left : (g : _) (c : After-remove g) → 0 < length c.loop-gateway.streams.items
streams_left g c =
    let n = ap length c.loop-gateway.invariant.streams
    ∙ length-drop (vec_len c.loop-gateway.handles) c.args.streams.items in
    omega (arith, n, in_streams g c)

-- it is the one at hand, and a fresh one
pub start-requires-after_bounds : goal.start-requires-after_bounds
start-requires-after_bounds g c κs within =
    let was = c.loop-gateway.invariant in
    let steps = c.in-Some.ensures.steps in
    let handles = c.loop-gateway.handles in
    let gateway = c.in-Some.gateway in
    let gs = c.args.gateways.items in
    let here = in_gateways g c in
    let next = next_is gs (into_iter_items c.loop-gateway.gateway-iterator) (into_iter_items c.next.new.self) gateway
    (vec_len handles) here was.left steps.0 in
    let fresh : IsFresh c.requires.fresh.0 (vec_len handles) gateway =
    rw next.0 (c.requires.fresh.1 (vec_len handles) gateway here) in
    (fresh.sent, fresh.state, fresh.held)

pub loop-gateway-preserved : goal.loop-gateway-preserved
loop-gateway-preserved g c =
    let at = (goal.at.loop-gateway-preserved g c).After-remove in
    let was = c.loop-gateway.invariant in
    let steps = c.in-Some.ensures.steps in
    let handles = c.loop-gateway.handles in
    let gateway = c.in-Some.gateway in
    let stream = c.remove.result in
    let streams = c.args.streams.items in
    let promised = c.in-Some-start.ensures in
    let gs = c.args.gateways.items in
    let n : length handles.items ≡ vec_len handles = sym handles.ok.0 in
    let here = in_gateways g at in
    let there : vec_len handles < length streams = in_streams g at in
    let next = next_is gs (into_iter_items c.loop-gateway.gateway-iterator) (into_iter_items c.next.new.self) gateway
    (vec_len handles) here was.left steps.0 in
    let first = first_removed c.loop-gateway.streams.items c.remove.new.self.items stream (streams_left g at)
    c.remove.ensures.value c.remove.ensures.items in
    let after = next_is streams c.loop-gateway.streams.items c.remove.new.self.items stream (vec_len handles) there
    was.streams first in
    record {
      count = search rules;
      left = rw c.push_reserved.ensures.len next.1;
      streams = rw c.push_reserved.ensures.len after.1;
      room = search rules;
      started =
          rw c.push_reserved.ensures.items
          (started_snoc streams gs handles.items c.in-Some-start.handle gateway stream (rw n here) (rw n there)
          was.started
          (rw n next.0) (rw n after.0) promised.0 (ap (λ (v : Vec ℕ _). v.items) promised.1));
    }

pub returns-in-None-start-clause-most : goal.returns-in-None-start-clause-most
returns-in-None-start-clause-most g c = omega (arith, c.loop-gateway.invariant.count)

pub returns-in-None-start-clause-all : goal.returns-in-None-start-clause-all
returns-in-None-start-clause-all g c = tt

pub returns-in-None-start-clause-started : goal.returns-in-None-start-clause-started
returns-in-None-start-clause-started g c = c.loop-gateway.invariant.started

pub returns-in-None-start-clause-room : goal.returns-in-None-start-clause-room
returns-in-None-start-clause-room g c = refl

pub returns-clause-most : goal.returns-clause-most
returns-clause-most g c = omega (arith, c.loop-gateway.invariant.count)

pub returns-clause-refused : goal.returns-clause-refused
returns-clause-refused g c = tt

pub returns-clause-started : goal.returns-clause-started
returns-clause-started g c = c.loop-gateway.invariant.started

pub returns-clause-room : goal.returns-clause-room
returns-clause-room g c = refl

pub remove-requires : goal.remove-requires
remove-requires g c =
    let was = c.loop-gateway.invariant in
    let n = ap length was.streams ∙ length-drop (vec_len c.loop-gateway.handles) c.args.streams.items in
    omega (
      arith,
      n,
      c.requires.streams,
      c.args.streams.ok.0,
      c.loop-gateway.streams.ok.0,
      was.count,
      c.in-Some.ensures.steps.1,
    )

pub push_reserved-requires : goal.push_reserved-requires
push_reserved-requires g c = omega (
  arith,
  c.loop-gateway.invariant.room,
  c.loop-gateway.invariant.count,
  c.in-Some.ensures.steps.1,
)

pub overflow_cast-refused : goal.overflow_cast-refused
overflow_cast-refused g c = omega (arith, c.requires.few, c.loop-gateway.invariant.count)
