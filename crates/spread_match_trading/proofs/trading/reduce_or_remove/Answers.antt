use Rattle.std.proofs.Common.{◌<◌, refl, subst, sym, arith}
use Rattle.std.proofs.lemmas.List.Elements.{Contains-get_or}
use Rattle.spread_rules.specs.declared.order.Order.{Order}
use Rattle.spread_match_trading.proofs.trading.reduce_or_remove.Goals as goal

pub reduce-requires : goal.reduce-requires
reduce-requires g c =
    let xs = g.B.Book.orders c.args.book.now in
    let enough : c.args.by < c.args.order.now.leaves = omega arith in
    record {
      order = c.args.order.now;
      stands = c.requires.stands;
      at = refl;
      each = λ k d lt same. subst (λ (o : Order). c.args.by < o.leaves)
          (sym (c.requires.places _ c.args.order.now (Contains-get_or xs k d lt) c.requires.stands same)) enough;
    }
