use Rattle.std.proofs.Common.{List, refl, sym, subst}
use Rattle.spread_rules.specs.declared.order.Order.{Order}
use Rattle.spread_rules.specs.Amended.{with_quantity}
use Rattle.spread_books_heap.specs.code.FrontPrices.{HoldsPrices}
use Rattle.spread_books_heap.proofs.fronts.TableHoldsFronts.{prices_changed}
use Rattle.spread_books_heap.proofs.ranks.TablesThroughChanges.{from_both}
use Rattle.spread_books_heap.proofs.front_book.FrontBookBook.amend.Goals as goal

pub invariant_of-self : goal.invariant_of-self
invariant_of-self g c =
    let kept = prices_changed (with_quantity c.args.id c.args.quantity)
    (record { instrument = λ o. refl; side = λ o. refl; price = λ o. refl; place = λ o. refl }) c.self.inside.tables
    c.self.inside.fronts c.args.place c.self.invariant in
    from_both c.amend.result c.amend.ensures.ok c.amend.ensures.unchanged_on_err
    (λ e. subst (λ (ys : List Order). HoldsPrices ys c.self.inside.fronts) (sym e) kept)
    (λ e. subst (λ (ys : List Order). HoldsPrices ys c.self.inside.fronts) (sym e) c.self.invariant)
