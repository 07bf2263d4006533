use Rattle.std.proofs.Common.{subst, sym}
use Rattle.spread_rules.specs.declared.order.Side.{Side}
use Rattle.spread_books_search.specs.code.Best.{IsBeyond, IsBestDirect}
use Rattle.spread_books_search.proofs.fronts.Levels.{none_direct}
use Rattle.spread_books_search.proofs.best.with_direct.Goals as goal

pub returns-else-front_is_within : goal.returns-else-front_is_within
returns-else-front_is_within g c =
    let xs = g.B.Book.orders c.args.book.now in
    let n = c.args.new.now in
    let beyond = subst (λ (side : Side). IsBeyond xs n.instrument side n) c.opposite.ensures
    (c.front_is_within.ensures c.if-front_is_within.false) in
    subst (IsBestDirect n xs) (sym c.requires.none) (record
    { fair = λ on. tt; small = tt; direct = tt; covers = λ on. none_direct on n xs beyond })
