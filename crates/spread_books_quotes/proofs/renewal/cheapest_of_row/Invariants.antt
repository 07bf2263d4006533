use Rattle.std.proofs.Common.{◌<◌, ◌≤ℤ◌, List}
use Rattle.spread_rules.specs.declared.order.Order.{Order}
use Rattle.spread_rules.specs.Candidates.{Pairs}
use Rattle.spread_books_plain.specs.Pairs.{IsCheapest}
use Rattle.spread_books_quotes.specs.declared.front_costs.TheConstants.{NO_PAIR}
use Rattle.spread_books_quotes.specs.code.FrontCosts.{AreFrontCosts}
use Rattle.spread_books_quotes.proofs.quotes.Cells.{least_pair}
use Rattle.spread_books_quotes.proofs.renewal.cheapest_of_row.Given as goal

abbrev pub invariant-loop-other_month : goal.invariant-loop-other_month
invariant-loop-other_month g l = record {
  near : l.least ≤ℤ NO_PAIR;
  cheapest : (on : Pairs) (xs : List Order) → AreFrontCosts on l.months xs l.costs → l.month < l.months
      → IsCheapest on xs l.fn.side l.month l.other_month (least_pair l.least l.month_of_least);
}
