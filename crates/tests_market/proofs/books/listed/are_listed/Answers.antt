use Rattle.std.proofs.Common.{All, subst, arith}
use Rattle.std.proofs.lemmas.List.{take_all}
use Rattle.spread_rules.specs.declared.order.Order.{Order}
use Rattle.spread_rules.specs.code.Candidates.{HasOrderPrice}
use Rattle.spread_books_search.specs.Listed.{IsInMonths, IsNearFirst}
use Rattle.tests_market.proofs.Walks.{one_more}
use Rattle.tests_market.proofs.books.listed.are_listed.Goals as goal

pub loop-n-preserved : goal.loop-n-preserved
loop-n-preserved g c =
    let xs = g.B.Book.orders c.args.book.now in
    let is_so = c.if-not-is_listed_at.false in (
      one_more HasOrderPrice xs c.loop-n.n (omega arith) c.loop-n.invariant.0 (c.is_listed_at.ensures.price is_so),
      one_more IsNearFirst xs c.loop-n.n (omega arith) c.loop-n.invariant.1 (c.is_listed_at.ensures.near is_so),
      one_more (λ (o : Order). IsInMonths c.args.months o.instrument) xs c.loop-n.n (omega arith)
          c.loop-n.invariant.2 (c.is_listed_at.ensures.months is_so),
    )

pub returns-clause-price : goal.returns-clause-price
returns-clause-price g c = λ e. subst (All HasOrderPrice)
    (take_all c.loop-n.n (g.B.Book.orders c.args.book.now) (omega arith))
    c.loop-n.invariant.0

pub returns-clause-near : goal.returns-clause-near
returns-clause-near g c = λ e. subst (All IsNearFirst)
    (take_all c.loop-n.n (g.B.Book.orders c.args.book.now) (omega arith))
    c.loop-n.invariant.1

pub returns-clause-months : goal.returns-clause-months
returns-clause-months g c = λ e. subst (All (λ (o : Order). IsInMonths c.args.months o.instrument))
    (take_all c.loop-n.n (g.B.Book.orders c.args.book.now) (omega arith)) c.loop-n.invariant.2
