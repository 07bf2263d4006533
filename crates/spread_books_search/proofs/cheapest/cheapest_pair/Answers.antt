use Rattle.std.proofs.Common.{◌≡◌, subst, sym, ap, ◌∙◌}
use Rattle.spread_rules_rulebook.specs.Rulebook.{implied}
use Rattle.spread_books_plain.specs.Pairs.{IsCheapest}
use Rattle.spread_books_search.specs.code.Cheapest.{cheaper_of}
use Rattle.spread_books_search.proofs.fronts.MonthPairs.{cheapest_more}
use Rattle.spread_books_search.proofs.cheapest.cheapest_pair.Goals as goal

pub loop-other_month-preserved : goal.loop-other_month-preserved
loop-other_month-preserved g c =
    let xs = g.B.Book.orders c.args.book.now in
    let on = implied c.args.pairs.now.rules.now in
    let month = c.loop-other_month.other_month in
    let least = c.loop-other_month.least in
    let is : c.cheaper-least.result ≡ cheaper_of least c.pair_cost-cost.result month = c.cheaper-least.ensures
    ∙ ap (cheaper_of least c.pair_cost-cost.result) c.from.ensures in
    record {
      cheapest = subst (IsCheapest on xs c.args.side c.args.month _) (sym is)
          (cheapest_more on xs c.args.side c.args.month month least c.pair_cost-cost.result
          c.loop-other_month.invariant.cheapest c.pair_cost-cost.ensures.cost c.pair_cost-cost.ensures.leg_price);
    }
