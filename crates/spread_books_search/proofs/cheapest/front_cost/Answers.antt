use Rattle.std.proofs.Common.{◌≡◌, Some, subst, sym, ap, ◌∙◌}
use Rattle.spread_rules.specs.Candidates.{cost}
use Rattle.spread_rules.specs.Legs.{other_side}
use Rattle.spread_books_plain.specs.Queues.{IsFrontLevel}
use Rattle.spread_books_search.specs.code.Cheapest.{HasFront}
use Rattle.spread_books_search.proofs.fronts.Levels.{none_without_level}
use Rattle.spread_rules_rulebook.proofs.rulebook_texts.OrderPrices.{order_is}
use Rattle.spread_books_search.proofs.fronts.MonthPairs.{level_costs, level_small}
use Rattle.spread_books_search.proofs.cheapest.front_cost.Goals as goal

pub returns-in-None-clause-cost : goal.returns-in-None-clause-cost
returns-in-None-clause-cost g c =
    let xs = g.B.Book.orders c.args.book.now in
    none_without_level xs c.args.instrument c.args.side
    (subst (IsFrontLevel xs c.args.instrument c.args.side) c.in-None.is c.front_level.ensures)

pub returns-in-Some-clause-cost : goal.returns-in-Some-clause-cost
returns-in-Some-clause-cost g c =
    let xs = g.B.Book.orders c.args.book.now in
    let l = c.in-Some.level in
    let is : IsFrontLevel xs c.args.instrument c.args.side (Some l) =
    subst (IsFrontLevel xs c.args.instrument c.args.side) c.in-Some.is c.front_level.ensures in
    let small = level_small xs c.args.instrument c.args.side l c.requires is in
    let paid : c.cost_in.result ≡ cost (other_side c.args.side) l.price = c.cost_in.ensures.cost
    ∙ ap (cost (other_side c.args.side)) (order_is l.price small) in
    subst (HasFront xs c.args.instrument c.args.side) (sym (order_is c.cost_in.result c.cost_in.ensures.order_price))
    (level_costs xs c.args.instrument c.args.side l c.cost_in.result is paid)
