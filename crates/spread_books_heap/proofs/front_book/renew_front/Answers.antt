use Rattle.std.proofs.Common.{◌≡◌, false, List, Option, sym, ◌∙◌, subst}
use Rattle.spread_rules.specs.declared.order.Order.{Order}
use Rattle.spread_rules.specs.Clearing.{removed}
use Rattle.spread_books_queues.specs.declared.front_table.BestPrice.{BestPrice}
use Rattle.spread_books_heap.specs.code.FrontPrices.{HoldsPrices, IsBestPrice, may_be_front}
use Rattle.spread_books_heap.proofs.fronts.TableHoldsFronts.{prices_removed, prices_unremoved}
use Rattle.spread_books_heap.proofs.front_book.renew_front.Goals as goal

pub returns-then-may_be_front : goal.returns-then-may_be_front
returns-then-may_be_front g c = λ xs up stands gone h.
    let o = c.args.order.now in
    let slots = c.args.fronts.now in
    let next = subst (λ (ys : List Order). IsBestPrice ys o.instrument o.side c.best_price-next.result) gone
    c.best_price-next.ensures in
    subst (λ (ys : List Order). HoldsPrices ys c.put.new.self) (sym gone)
    (subst (λ (t : List (Option BestPrice)). HoldsPrices (removed o.place xs) t) (sym c.put.ensures)
    (prices_removed xs slots o h up stands c.best_price-next.result next))

pub returns-else-may_be_front : goal.returns-else-may_be_front
returns-else-may_be_front g c = λ xs up stands gone h.
    let o = c.args.order.now in
    let other : may_be_front c.in-Some.best o.place ≡ false = sym c.may_be_front.ensures ∙ c.if-may_be_front.false in
    subst (λ (ys : List Order). HoldsPrices ys c.args.fronts.now) (sym gone)
    (prices_unremoved xs c.args.fronts.now o h up stands
    (λ b k. let s : b ≡ c.in-Some.best = let m = sym c.known_price.ensures ∙ c.in-Some.is in cc in
    subst (λ (r : Option BestPrice). may_be_front r o.place ≡ false) (sym s) other))

pub returns-in_default : goal.returns-in_default
returns-in_default g c = λ xs up stands gone h.
    subst (λ (ys : List Order). HoldsPrices ys c.args.fronts.now) (sym gone)
    (prices_unremoved xs c.args.fronts.now c.args.order.now h up stands
    (λ b k. let m = sym c.known_price.ensures ∙ c.in_default.is in cc))
