use Rattle.std.proofs.Common.{List, Option, Some, sym, ap, ◌∙◌, subst}
use Rattle.spread_rules.specs.declared.order.Order.{Order}
use Rattle.spread_books_queues.specs.declared.front_table.BestPrice.{BestPrice}
use Rattle.spread_books_plain.specs.Queues.{IsFront}
use Rattle.spread_books_heap.proofs.fronts.TableHoldsFronts.{front_found}
use Rattle.spread_books_heap.proofs.front_book.FrontBookBook.front.Goals as goal

pub returns-in_err-order : goal.returns-in_err-order
returns-in_err-order g c =
    let b = c.in_ok-best.best in
    let known = sym c.known_price.ensures ∙ c.in-Some.is ∙ ap (λ (k : Option BestPrice). Some k) c.in_ok-best.was in
    subst (λ (ys : List Order). IsFront ys c.args.instrument c.args.side c.from_residual-in_err-order.result)
    c.self.view_is
    (subst (λ (r : Option Order). IsFront c.self.inside.tables c.args.instrument c.args.side r)
    (sym (c.from_residual-in_err-order.ensures ∙ c.in_err-order.ensures.value))
    (front_found c.self.inside.tables c.args.instrument c.args.side b c.order_at.ensures.ordered
    (c.self.invariant c.args.instrument c.args.side (Some b) known)))

pub returns : goal.returns
returns g c =
    let b = c.in_ok-best.best in
    let known = sym c.known_price.ensures ∙ c.in-Some.is ∙ ap (λ (k : Option BestPrice). Some k) c.in_ok-best.was in
    subst (λ (ys : List Order). IsFront ys c.args.instrument c.args.side (Some c.in_ok-order.order.now)) c.self.view_is
    (subst (λ (r : Option Order). IsFront c.self.inside.tables c.args.instrument c.args.side r)
    (sym c.in_ok-order.ensures.value)
    (front_found c.self.inside.tables c.args.instrument c.args.side b c.order_at.ensures.ordered
    (c.self.invariant c.args.instrument c.args.side (Some b) known)))
