use Rattle.std.proofs.Common.{subst, arith, All}
use Rattle.std.proofs.lemmas.List.{take_all}
use Rattle.std.proofs.lemmas.List.Elements.{All-more}
use Rattle.spread_rules.specs.code.Candidates.{HasOrderPrice}
use Rattle.tests_market.proofs.rules.plain_matcher.are_priced.Goals as goal

pub loop-order-preserved : goal.loop-order-preserved
loop-order-preserved c =
    All-more HasOrderPrice c.args.orders.now c.loop-order.order-index c.order-item.result c.loop-order-test.true
    c.loop-order.invariant
    (subst HasOrderPrice c.order-item.is (c.is_priced.ensures c.if-not-is_priced.false))

pub returns : goal.returns
returns c = λ e. subst (All HasOrderPrice) (take_all c.loop-order.order-index c.args.orders.now
    (omega (arith, c.loop-order-test.false))) c.loop-order.invariant
