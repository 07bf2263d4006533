use Rattle.std.proofs.Common.{◌≡◌, ◌==◌, ℕ, List, None, sym, ap, ◌∙◌, subst}
use Rattle.std.specs.List.{find}
use Rattle.spread_rules.specs.declared.order.Order.{Order}
use Rattle.spread_rules.specs.Clearing.{removed}
use Rattle.spread_books_rows.specs.Places.{HasPlace}
use Rattle.spread_books_heap.proofs.fronts.TableHoldsFronts.{rests_at, not_nobody}
use Rattle.spread_books_heap.proofs.front_book.FrontBook.remove_order.Goals as goal

pub invariant_of-self : goal.invariant_of-self
invariant_of-self g c =
    let nobody : None ≡ find (λ (o : Order). o.place == c.args.place) c.self.inside.tables = sym c.in_err-order.was
    ∙ c.remove_order.ensures.was in
    let rests = subst (λ (ys : List Order). HasPlace ys c.args.place) (sym c.self.view_is) c.requires in
    absurd (not_nobody c.self.inside.tables c.args.place rests.order rests.stands rests.at nobody)

pub invariant_of-self-2 : goal.invariant_of-self-2
invariant_of-self-2 g c =
    let xs = c.self.inside.tables in
    let o = c.in_ok-order.order in
    let at = rests_at xs c.args.place o (sym c.in_ok-order.was ∙ c.remove_order.ensures.was) in
    let gone : c.remove_order.new.self ≡ removed o.place xs = c.remove_order.ensures.book
    ∙ ap (λ (p : ℕ). removed p xs) (sym at.1) in
    c.renew_front.ensures xs c.remove_order.ensures.ordered at.0 gone c.self.invariant
