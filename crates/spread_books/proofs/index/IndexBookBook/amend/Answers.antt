use Rattle.std.proofs.Common.{List, ◌++◌, ◌∷◌, [], refl, sym, ap, ◌∙◌, subst}
use Rattle.std.specs.Option.{option_to_list}
use Rattle.spread_rules.specs.declared.order.Order.{Order}
use Rattle.spread_rules.specs.Amended.{with_quantity}
use Rattle.spread_rules.specs.code.Amended.{amended}
use Rattle.spread_books_rows.specs.Places.{Ascends}
use Rattle.spread_books_rows.proofs.places.Ascending.{ascends_changed}
use Rattle.spread_books_plain.specs.Queues.{CanAmend}
use Rattle.spread_books_heap.proofs.ranks.TablesThroughChanges.{from_both}
use Rattle.spread_books_plain.proofs.places.LastOrder.{changed_newest, changed_before, amend_before}
use Rattle.spread_books_search.specs.BookView.{BookView}
use Rattle.spread_books.proofs.index.IndexBookBook.amend.Goals as goal

pub returns-in-Some-clause-ok : goal.returns-in-Some-clause-ok
returns-in-Some-clause-ok g c =
    let xs = c.self.inside.others.orders in
    let f = with_quantity c.args.id c.args.quantity in
    ap (λ (o : Order). xs ++ o ∷ []) c.with_quantity.ensures
    ∙ sym (changed_newest xs c.self.inside.newest c.args.place c.in-Some.was (sym c.newest_at.ensures ∙ c.in-Some.is)
    c.self.invariant f)
    ∙ ap (λ (ys : List Order). amended c.args.place c.args.id c.args.quantity ys)
    (ap (λ (v : BookView). v.orders) c.self.view_is)

pub amend-requires : goal.amend-requires
amend-requires g c =
    amend_before c.self.inside.others.orders (option_to_list c.self.inside.newest) c.args.place
    (sym c.newest_at.ensures ∙ c.in_default.is) c.args.id c.args.quantity
    (subst (λ (xs : List Order). CanAmend xs c.args.place c.args.id c.args.quantity)
    (sym (ap (λ (v : BookView). v.orders) c.self.view_is)) c.requires)

pub invariant_of-self-2 : goal.invariant_of-self-2
invariant_of-self-2 g c =
    let xs = c.self.inside.others.orders in
    let ys = option_to_list c.self.inside.newest in
    let f = with_quantity c.args.id c.args.quantity in
    let up = ascends_changed f (λ o. refl) c.args.place (xs ++ ys) c.self.invariant in
    let apart = changed_before xs ys c.args.place (sym c.newest_at.ensures ∙ c.in_default.is) f in
    from_both c.amend.result c.amend.ensures.ok c.amend.ensures.unchanged_on_err
    (λ e. subst (λ (zs : List Order). Ascends zs) (apart ∙ ap (λ (zs : List Order). zs ++ ys) (sym e)) up)
    (λ e. subst (λ (zs : List Order). Ascends (zs ++ ys)) (sym e) c.self.invariant)
