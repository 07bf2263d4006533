use Rattle.std.proofs.Common.{[], ◌∷◌, ◌++◌, List, Option, Some, sym, ◌∙◌, subst}
use Rattle.spread_books_queues.specs.declared.front_table.BestPrice.{BestPrice}
use Rattle.spread_books_heap.specs.code.FrontPrices.{HoldsPrices}
use Rattle.spread_books_queues.specs.FrontTable.{with_known_price}
use Rattle.spread_books_heap.proofs.fronts.TableHoldsFronts.{prices_added, prices_behind, prices_unknown}
use Rattle.spread_books_heap.proofs.front_book.update_front.Goals as goal

pub returns-then-becomes_front : goal.returns-then-becomes_front
returns-then-becomes_front g c = λ xs h.
    let o = c.args.order.now in
    subst (λ (t : List (Option BestPrice)). HoldsPrices (xs ++ o ∷ []) t) (sym c.put.ensures)
    (subst (λ (b : BestPrice). HoldsPrices (xs ++ o ∷ [])
    (with_known_price c.args.fronts.now o.instrument o.side (Some b))) (sym c.new.ensures)
    (prices_added xs c.args.fronts.now o h c.in-Some.best (sym c.known_price.ensures ∙ c.in-Some.is)
    (sym c.becomes_front.ensures ∙ c.if-becomes_front.true)))

pub returns-else-becomes_front : goal.returns-else-becomes_front
returns-else-becomes_front g c = λ xs h.
    prices_behind xs c.args.fronts.now c.args.order.now h c.in-Some.best (sym c.known_price.ensures ∙ c.in-Some.is)
    (sym c.becomes_front.ensures ∙ c.if-becomes_front.false)

pub returns-in_default : goal.returns-in_default
returns-in_default g c = λ xs h. prices_unknown xs c.args.fronts.now c.args.order.now h
    (sym c.known_price.ensures ∙ c.in_default.is)
