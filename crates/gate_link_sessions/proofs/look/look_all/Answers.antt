use Rattle.std.proofs.Common.{arith, ◌<◌, length, refl}
use Rattle.gate_link_sessions.specs.Inboxes.{LookedAt}
use Rattle.gate_link_sessions.proofs.inboxes.AlongTwoLists.{pairs_more, left_more}
use Rattle.gate_link_sessions.proofs.look.look_all.Goals as goal

pub loop-s-preserved : goal.loop-s-preserved
loop-s-preserved g c =
    let was = c.loop-s.invariant in
    let i = c.loop-s.s in
    let same_inboxes = c.loop-s.auto.inboxes in
    let same_gateways = c.loop-s.auto.gateways in
    let in_inboxes : i < length c.args.inboxes.now = c.loop-s-test.true in
    let in_gateways : i < length c.args.gateways.now = omega (arith, c.requires.0) in record {
      done = pairs_more LookedAt c.args.inboxes.now c.loop-s.inboxes c.args.gateways.now c.loop-s.gateways i
          c.index-inboxes-s.result c.look.new.self c.index-gateways-s.result c.look.new.gateway
          same_inboxes same_gateways in_inboxes in_gateways was.done was.inboxes_left was.gateways_left c.look.ensures;
      inboxes_left = left_more c.args.inboxes.now c.loop-s.inboxes i c.look.new.self was.inboxes_left;
      gateways_left = left_more c.args.gateways.now c.loop-s.gateways i c.look.new.gateway was.gateways_left;
    }

pub returns : goal.returns
returns g c = (
  c.loop-s.auto.inboxes,
  c.loop-s.auto.gateways,
  (λ s d g below. c.loop-s.invariant.done s d g
      (omega (arith, c.loop-s-test.false))),
)

pub loop-s-init : goal.loop-s-init
loop-s-init g c = record {
  done = λ s d g below. absurd (omega (arith, below));
  inboxes_left = λ s d after. refl;
  gateways_left = λ s g after. refl;
}

-- the ends at this place are still those of one ring
pub look-requires : goal.look-requires
look-requires g c =
    let was = c.loop-s.invariant in
    let i = c.loop-s.s in
    let x = c.index-inboxes-s.result in
    let y = c.index-gateways-s.result in
    rw (was.inboxes_left i x (omega arith), was.gateways_left i y (omega arith)) (c.requires.1 i x y c.loop-s-test.true)
