use Rattle.std.proofs.Common.{arith, ◌≡◌, ℕ, ◌<◌, ◌∙◌, List, length, map, get_or, true, below_more, ap, sym, inl, inr}
use Rattle.std.proofs.lemmas.Bool.{cases_lt}
use Rattle.std.proofs.lemmas.List.{get_or-map, get_or_past, length-map}
use Rattle.gate_link_sessions.specs.Gateways.{is_over}
use Rattle.gate_link.specs.Links.{closed_at}
use Rattle.gate_link_sessions.specs.declared.gateway.Gateway.{Gateway}
use Rattle.gate_link.proofs.look.first_open.Goals as goal

-- whether the gateway at a place is closed
closed_at_is : {A : Type 0} (gs : List (Gateway A)) (i : ℕ) (gateway : Gateway A) → i < length gs
    → gateway ≡ get_or gs i gateway → closed_at gs i ≡ is_over gateway
closed_at_is gs i gateway here is = get_or-map is_over gs i gateway true here ∙ ap is_over (sym is)

pub loop-s-preserved : goal.loop-s-preserved
loop-s-preserved g c =
    let gs = c.args.gateways.now in
    let i = c.loop-s.s in
    below_more (λ r. closed_at gs r ≡ true) i c.loop-s.invariant
    (closed_at_is gs i c.index-gateways-s.result c.loop-s-test.true c.index-gateways-s.is
    ∙ (sym c.is_closed.ensures ∙ c.if-not-is_closed.false))

pub returns-then-not-is_closed-clause-some : goal.returns-then-not-is_closed-clause-some
returns-then-not-is_closed-clause-some g c =
    let gs = c.args.gateways.now in
    let i = c.loop-s.s in (
      closed_at_is gs i c.index-gateways-s.result c.loop-s-test.true c.index-gateways-s.is
          ∙ (sym c.is_closed.ensures ∙ c.if-not-is_closed.true),
      c.loop-s.invariant,
    )

-- and none past the last one
pub returns-clause-none : goal.returns-clause-none
returns-clause-none g c s =
    let gs = c.args.gateways.now in
    elim (cases_lt s (length gs)) [
      | inl here ↦ c.loop-s.invariant s (omega arith)
      | inr past ↦ get_or_past (map is_over gs) s true (rw length-map past)
    ]
