use Rattle.std.proofs.Common.{List, Option, Some, None, sym, ap, ◌∙◌, subst}
use Rattle.spread_rules.specs.declared.order.Order.{Order}
use Rattle.spread_rules.specs.declared.order.Level.{Level}
use Rattle.spread_books_queues.specs.declared.front_table.BestPrice.{BestPrice}
use Rattle.spread_books_plain.specs.Queues.{IsFrontLevel}
use Rattle.spread_books_heap.proofs.fronts.TableHoldsFronts.{no_level, level_found}
use Rattle.spread_books_heap.proofs.front_book.FrontBookBook.front_level.Goals as goal

pub returns-in-None-known : goal.returns-in-None-known
returns-in-None-known g c =
    subst (λ (ys : List Order). IsFrontLevel ys c.args.instrument c.args.side None) c.self.view_is
    (no_level c.self.inside.tables c.args.instrument c.args.side
    (c.self.invariant c.args.instrument c.args.side None
    (sym c.known_price.ensures ∙ c.in-Some.is ∙ ap (λ (b : Option BestPrice). Some b) c.in-None-known.is)))

pub returns-in-Some-known : goal.returns-in-Some-known
returns-in-Some-known g c =
    let b = c.in-Some-known.best in
    subst (λ (ys : List Order). IsFrontLevel ys c.args.instrument c.args.side (Some c.level.result)) c.self.view_is
    (subst (λ (l : Level). IsFrontLevel c.self.inside.tables c.args.instrument c.args.side (Some l))
    (sym c.level.ensures)
    (level_found c.self.inside.tables c.args.instrument c.args.side b
    (c.self.invariant c.args.instrument c.args.side (Some b)
    (sym c.known_price.ensures ∙ c.in-Some.is ∙ ap (λ (b : Option BestPrice). Some b) c.in-Some-known.is))))
