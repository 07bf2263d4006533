use Rattle.std.proofs.Common.{◌==◌, subst, sym, List, Contains}
use Rattle.spread_rules.specs.declared.order.Order.{Order}
use Rattle.spread_rules.specs.Candidates.{AllStandIn, PlacesDiffer}
use Rattle.spread_match_trading.specs.code.Turns.{AreApart}
use Rattle.spread_match_trading.proofs.turns.StaysAfterAFill.{still_there, still_differ}
use Rattle.spread_match_trading.proofs.trading.reduce_members.Goals as goal

pub reduce_or_remove-requires-in-Implied-2-clause-stands : goal.reduce_or_remove-requires-in-Implied-2-clause-stands
reduce_or_remove-requires-in-Implied-2-clause-stands g c =
    let xs = g.B.Book.orders c.args.book.now in
    subst (λ (ys : List Order). Contains ys c.in-Implied.b) (sym c.reduce_or_remove-in-Implied.ensures.orders)
    (still_there c.args.by xs c.in-Implied.a c.in-Implied.b (c.in-Implied.a.leaves == c.args.by)
    (subst AreApart c.in-Implied.is c.requires.apart) (subst (AllStandIn xs) c.in-Implied.is c.requires.stands).1)

pub reduce_or_remove-requires-in-Implied-2-clause-places : goal.reduce_or_remove-requires-in-Implied-2-clause-places
reduce_or_remove-requires-in-Implied-2-clause-places g c =
    let xs = g.B.Book.orders c.args.book.now in
    subst PlacesDiffer (sym c.reduce_or_remove-in-Implied.ensures.orders)
    (still_differ c.args.by xs c.in-Implied.a (c.in-Implied.a.leaves == c.args.by) c.requires.places)
