use Rattle.std.proofs.Common.{◌≡◌, ◌++◌, take, drop}
use Rattle.spread_rules.specs.Clearing.{reduced}
use Rattle.spread_books_plain.proofs.list.reduce_all.Given as goal

abbrev pub invariant-loop-order : goal.invariant-loop-order
invariant-loop-order l = l.orders ≡ reduced l.place l.by (take l.order-index l.fn.orders)
    ++ drop l.order-index l.fn.orders
