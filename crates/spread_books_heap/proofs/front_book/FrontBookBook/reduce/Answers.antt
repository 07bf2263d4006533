use Rattle.std.proofs.Common.{List, refl, sym, subst}
use Rattle.spread_rules.specs.declared.order.Order.{Order}
use Rattle.spread_books_heap.specs.code.FrontPrices.{HoldsPrices}
use Rattle.spread_books_heap.proofs.fronts.TableHoldsFronts.{prices_changed}
use Rattle.spread_books_rows.proofs.places.ChangedAt.{less}
use Rattle.spread_books_heap.proofs.front_book.FrontBookBook.reduce.Goals as goal

pub invariant_of-self : goal.invariant_of-self
invariant_of-self g c =
    subst (λ (ys : List Order). HoldsPrices ys c.self.inside.fronts) (sym c.reduce.ensures.less)
    (prices_changed (less c.args.by) (record {
      instrument = λ o. refl;
      side = λ o. refl;
      price = λ o. refl;
      place =
          λ o. refl;
    }) c.self.inside.tables c.self.inside.fronts c.args.place c.self.invariant)
