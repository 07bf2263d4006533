use Rattle.std.proofs.Common.{◌<◌, All, subst, arith}
use Rattle.std.proofs.lemmas.List.{take_all}
use Rattle.spread_rules.specs.declared.order.Order.{Order}
use Rattle.tests_market.proofs.Walks.{one_more}
use Rattle.tests_market.proofs.books.checked.are_below.Goals as goal

pub loop-n-preserved : goal.loop-n-preserved
loop-n-preserved g c =
    one_more (λ (o : Order). o.place < c.args.place) (g.B.Book.orders c.args.book.now) c.loop-n.n (omega arith)
    c.loop-n.invariant (c.is_below_at.ensures c.if-not-is_below_at.false)

pub returns : goal.returns
returns g c = λ e. subst (All (λ (o : Order). o.place < c.args.place))
    (take_all c.loop-n.n (g.B.Book.orders c.args.book.now) (omega arith)) c.loop-n.invariant
