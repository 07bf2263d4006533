use Rattle.spread_rules.specs.code.Cases.{amended_at}
use Rattle.spread_rules.proofs.lists.InTurn.{next}
use Rattle.spread_books_plain.proofs.list.amend_all.Goals as goal

pub loop-order-preserved : goal.loop-order-preserved
loop-order-preserved c = next (amended_at c.args.place c.args.id c.args.quantity) c.args.orders.now c.loop-order.orders
    c.loop-order.order-index c.order-item.result c.loop-order-test.true c.loop-order.invariant _ c.amend_one.ensures
