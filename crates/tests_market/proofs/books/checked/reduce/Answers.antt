use Rattle.std.proofs.Common.{◌<◌, refl, sym, ◌∙◌, arith}
use Rattle.spread_rules.specs.declared.order.Order.{Order}
use Rattle.tests_market.proofs.Walks.{walked, each_there}
use Rattle.tests_market.proofs.books.checked.reduce.Goals as goal

pub reduce-requires : goal.reduce-requires
reduce-requires g c =
    let xs = g.B.Book.orders c.args.book.now in
    let order = c.in-Some.order in
    let here = sym c.walk.ensures ∙ c.in-Some.is in
    record {
      order = order;
      stands = walked xs c.args.n order here;
      at = refl;
      each = each_there (λ (o : Order). c.args.by < o.leaves) xs c.args.n order.place order here (omega arith)
          (c.is_alone.ensures c.if-not-is_alone.false);
    }
