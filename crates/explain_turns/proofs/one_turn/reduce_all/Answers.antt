use Rattle.spread_rules.specs.code.Cases.{with_less_left}
use Rattle.spread_rules.proofs.lists.InTurn.{next}
use Rattle.explain_turns.proofs.one_turn.reduce_all.Goals as goal

pub loop-order-preserved : goal.loop-order-preserved
loop-order-preserved c = next (with_less_left c.args.place c.args.by) c.args.orders.now c.loop-order.orders
    c.loop-order.order-index c.order-item.result c.loop-order-test.true c.loop-order.invariant _ c.reduce_one.ensures
