use Rattle.std.proofs.Common.{◌≡◌, fold, take, None}
use Rattle.spread_books_plain.specs.Queues.{front_step}
use Rattle.spread_books_plain.proofs.list.first_in.Given as goal

abbrev pub invariant-loop-order : goal.invariant-loop-order
invariant-loop-order l = l.found ≡ fold (front_step l.instrument l.side) None (take l.order-index l.orders)
