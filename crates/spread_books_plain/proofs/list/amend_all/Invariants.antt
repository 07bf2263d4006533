use Rattle.std.proofs.Common.{◌≡◌, ◌++◌, take, drop}
use Rattle.spread_rules.specs.code.Amended.{amended}
use Rattle.spread_books_plain.proofs.list.amend_all.Given as goal

abbrev pub invariant-loop-order : goal.invariant-loop-order
invariant-loop-order l = l.orders ≡ amended l.place l.id l.quantity (take l.order-index l.fn.orders)
    ++ drop l.order-index l.fn.orders
