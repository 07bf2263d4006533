use Rattle.std.proofs.Common.{Option, sym, ◌∙◌, subst}
use Rattle.spread_rules.specs.declared.order.Order.{Order}
use Rattle.spread_books_queues.specs.declared.front_table.BestPrice.{BestPrice}
use Rattle.spread_books_plain.specs.Queues.{IsFront}
use Rattle.spread_books_heap.specs.code.FrontPrices.{IsBestPrice}
use Rattle.spread_books_heap.proofs.fronts.TableHoldsFronts.{no_front, front_found}
use Rattle.spread_books_heap.proofs.heap_book.HeapBookBook.front.Goals as goal

pub returns-in-None : goal.returns-in-None
returns-in-None g c = no_front c.args.self.now c.args.instrument c.args.side
    (subst (λ (b : Option BestPrice). IsBestPrice c.args.self.now c.args.instrument c.args.side b) c.in-None.is
    c.best_price.ensures)

pub returns-in-Some : goal.returns-in-Some
returns-in-Some g c =
    let xs = c.args.self.now in
    subst (λ (r : Option Order). IsFront xs c.args.instrument c.args.side r)
    (sym (c.copied.ensures ∙ c.order_at.ensures.value))
    (front_found xs c.args.instrument c.args.side c.in-Some.best c.order_at.ensures.ordered
    (subst (λ (b : Option BestPrice). IsBestPrice xs c.args.instrument c.args.side b) c.in-Some.is
    c.best_price.ensures))
