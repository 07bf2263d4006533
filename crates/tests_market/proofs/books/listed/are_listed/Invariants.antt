use Rattle.std.proofs.Common.{take, All}
use Rattle.spread_rules.specs.declared.order.Order.{Order}
use Rattle.spread_rules.specs.code.Candidates.{HasOrderPrice}
use Rattle.spread_books_search.specs.Listed.{IsInMonths, IsNearFirst}
use Rattle.tests_market.proofs.books.listed.are_listed.Given as goal

abbrev pub invariant-loop-n : goal.invariant-loop-n
invariant-loop-n g l =
    All HasOrderPrice (take l.n (g.B.Book.orders l.book))
    × All IsNearFirst (take l.n (g.B.Book.orders l.book))
    × All (λ (o : Order). IsInMonths l.months o.instrument) (take l.n (g.B.Book.orders l.book))
