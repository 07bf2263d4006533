use Rattle.std.proofs.Common.{subst, sym, ap, ◌∙◌, fold, None, List}
use Rattle.spread_rules.specs.declared.order.Order.{Order}
use Rattle.spread_books_plain.specs.Queues.{IsFront, front_step}
use Rattle.spread_books_plain.proofs.fronts.FoldGivesFront.{fold_front}
use Rattle.spread_books_plain.proofs.list.ListBookBook.front.Goals as goal

pub returns : goal.returns
returns g c =
    let xs = c.self.inside.orders.items in
    subst (λ (ys : List Order). IsFront ys c.args.instrument c.args.side c.first_in.result) c.self.view_is
    (subst (IsFront xs c.args.instrument c.args.side)
    (sym (c.first_in.ensures ∙ ap (λ (ys : List Order). fold (front_step c.args.instrument c.args.side) None ys)
    c.deref.ensures.value))
    (fold_front xs c.args.instrument c.args.side))
