use Rattle.std.proofs.Common.{true, false, subst, sym, ◌∙◌, Some, None}
use Rattle.spread_rules.specs.declared.order.Side.{Side}
use Rattle.spread_books_plain.specs.Queues.{IsFront}
use Rattle.spread_books_search.specs.code.Best.{IsBestDirect}
use Rattle.spread_books_search.proofs.fronts.DirectFirst.{front_made}
use Rattle.spread_books_search.proofs.best.with_front.Goals as goal

pub returns-then-is_within : goal.returns-then-is_within
returns-then-is_within g c =
    let xs = g.B.Book.orders c.args.book.now in
    let n = c.args.new.now in
    let first = subst (IsFront xs n.instrument c.opposite-side.result) c.in-Some.is c.front.ensures in
    front_made n c.in-Some.order xs c.opposite-side.result true c.opposite-side.ensures first c.requires.order_price
    (sym c.if-is_within.true ∙ c.is_within.ensures)

pub returns-else-is_within : goal.returns-else-is_within
returns-else-is_within g c =
    let xs = g.B.Book.orders c.args.book.now in
    let n = c.args.new.now in
    let first = subst (IsFront xs n.instrument c.opposite-side.result) c.in-Some.is c.front.ensures in
    subst (IsBestDirect n xs) (sym c.requires.none)
    (front_made n c.in-Some.order xs c.opposite-side.result false c.opposite-side.ensures first c.requires.order_price
    (sym c.if-is_within.false ∙ c.is_within.ensures))

pub returns-in_default : goal.returns-in_default
returns-in_default g c =
    let xs = g.B.Book.orders c.args.book.now in
    let n = c.args.new.now in
    let front = subst (λ (side : Side). IsFront xs n.instrument side None) c.opposite-side.ensures
    (subst (IsFront xs n.instrument c.opposite-side.result) c.in_default.is c.front.ensures) in
    subst (IsBestDirect n xs) (sym c.requires.none) (record
    { fair = λ on. tt; small = tt; direct = tt; covers = λ on o price r e. absurd (front o r) })
