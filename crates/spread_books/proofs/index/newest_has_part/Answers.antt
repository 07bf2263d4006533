use Rattle.std.proofs.Common.{Option, subst}
use Rattle.std.specs.Option.{IsSomeAnd}
use Rattle.spread_rules.specs.declared.order.Order.{Order}
use Rattle.spread_books_search.specs.code.Cheapest.{IsInColumn}
use Rattle.spread_books.proofs.index.newest_has_part.Goals as goal

pub returns-in-Some : goal.returns-in-Some
returns-in-Some c = λ k at.
    c.has_part.ensures k (subst (λ (r : Option Order). IsSomeAnd r
    (λ o. IsInColumn o.instrument o.side c.args.side c.args.month k)) c.in-Some.is at)
