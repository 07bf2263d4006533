use Rattle.std.proofs.Common.{◌≡◌, ◌<◌, subst, sym}
use Rattle.spread_rules.specs.declared.order.Order.{Order}
use Rattle.spread_rules.specs.code.Cases.{with_less_left}
use Rattle.spread_rules.proofs.lists.InTurn.{still, next}
use Rattle.spread_books_plain.proofs.list.reduce_all.Goals as goal

pub reduce_one-requires : goal.reduce_one-requires
reduce_one-requires c =
    let at = still (with_less_left c.args.place c.args.by) c.args.orders.now c.loop-order.orders
    c.loop-order.order-index c.order-item.result c.loop-order-test.true c.loop-order.invariant in
    subst (λ (o : Order). o.place ≡ c.args.place → c.args.by < o.leaves) (sym at)
    (c.requires c.loop-order.order-index c.order-item.result c.loop-order-test.true)

pub loop-order-preserved : goal.loop-order-preserved
loop-order-preserved c = next (with_less_left c.args.place c.args.by) c.args.orders.now c.loop-order.orders
    c.loop-order.order-index c.order-item.result c.loop-order-test.true c.loop-order.invariant _ c.reduce_one.ensures
