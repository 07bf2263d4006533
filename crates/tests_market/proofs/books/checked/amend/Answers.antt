use Rattle.std.proofs.Common.{◌≡◌, ◌<◌, false, Option, Some, None, refl, sym, ◌∙◌}
use Rattle.std.specs.Option.{is_some}
use Rattle.spread_rules.specs.declared.order.Order.{Order}
use Rattle.spread_rules.specs.Amended.{done}
use Rattle.tests_market.proofs.Walks.{walked, each_there}
use Rattle.tests_market.proofs.books.checked.amend.Goals as goal

none_is : (r : Option Order) → is_some r ≡ false → r ≡ None
none_is None e = refl
none_is (Some o) e = cc

pub amend-requires : goal.amend-requires
amend-requires g c =
    let xs = g.B.Book.orders c.args.book.now in
    let order = c.in-Some.order in
    let here = sym c.walk.ensures ∙ c.in-Some.is in
    record {
      order = order;
      stands = walked xs c.args.n order here;
      at = refl;
      each = each_there (λ (o : Order). done o < c.args.quantity) xs c.args.n order.place order here
          (c.is_filled_to.ensures c.if-is_filled_to.false) (c.is_alone.ensures c.if-not-is_alone.false);
      most = c.if-quantity-gt-MAX_ORDER_QTY.false;
      free = sym c.find.ensures ∙ none_is c.find.result (sym c.is_some.ensures ∙ c.if-is_some.false);
    }
