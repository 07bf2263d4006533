use Rattle.spread_rules_rulebook.specs.Rulebook.{implied}
use Rattle.spread_books_plain.specs.Pairs.{IsCheapest}
use Rattle.spread_books_search.proofs.cheapest.cheapest_pair.Given as goal

abbrev pub invariant-loop-other_month : goal.invariant-loop-other_month
invariant-loop-other_month g l = record {
  cheapest : IsCheapest (implied l.pairs.rules.now) (g.B.Book.orders l.book) l.side l.month l.other_month l.least;
}
