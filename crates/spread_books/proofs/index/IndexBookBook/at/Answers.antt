use Rattle.std.proofs.Common.{◌==◌, List, sym, ap, ◌∙◌}
use Rattle.std.specs.List.{find}
use Rattle.std.specs.Option.{option_to_list}
use Rattle.spread_rules.specs.declared.order.Order.{Order}
use Rattle.spread_books_plain.proofs.places.LastOrder.{found_before, found_newest}
use Rattle.spread_books_search.specs.BookView.{BookView}
use Rattle.spread_books.proofs.index.IndexBookBook.at.Goals as goal

pub returns-in-None : goal.returns-in-None
returns-in-None g c =
    let test = λ (o : Order). o.place == c.args.place in
    c.at.ensures
    ∙ (sym (found_before c.self.inside.others.orders (option_to_list c.self.inside.newest) c.args.place
    (sym c.newest_at.ensures ∙ c.in-None.is))
    ∙ ap (λ (xs : List Order). find test xs) (ap (λ (v : BookView). v.orders) c.self.view_is))

pub returns-in-Some : goal.returns-in-Some
returns-in-Some g c =
    let test = λ (o : Order). o.place == c.args.place in
    sym (found_newest c.self.inside.others.orders c.self.inside.newest c.args.place c.in-Some.order
    (sym c.newest_at.ensures ∙ c.in-Some.is) c.self.invariant)
    ∙ ap (λ (xs : List Order). find test xs) (ap (λ (v : BookView). v.orders) c.self.view_is)
