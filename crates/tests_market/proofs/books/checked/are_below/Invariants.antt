use Rattle.std.proofs.Common.{◌<◌, take, All}
use Rattle.spread_rules.specs.declared.order.Order.{Order}
use Rattle.tests_market.proofs.books.checked.are_below.Given as goal

abbrev pub invariant-loop-n : goal.invariant-loop-n
invariant-loop-n g l = All (λ (o : Order). o.place < l.place) (take l.n (g.B.Book.orders l.book))
