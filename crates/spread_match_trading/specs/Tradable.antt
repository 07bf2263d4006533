-- Which lists of resting orders a new order can be traded with.
use Rattle.std.specs.Prelude.{ℕ, ◌<◌, List, All}
use Rattle.spread_rules.specs.declared.order.Order.{Order}
use Rattle.spread_rules.specs.Candidates.{PlacesDiffer}
use Rattle.spread_rules.specs.code.Candidates.{HasOrderPrice}
use Rattle.spread_books_search.specs.Listed.{IsInMonths, IsNearFirst}

-- what a list has to be, to be traded with
pub record IsTradable (months : ℕ) (xs : List Order) : Type 0 where
  pub small : All HasOrderPrice xs
  pub listed : All IsNearFirst xs
  pub within : All (λ o. IsInMonths months o.instrument) xs
  pub places : PlacesDiffer xs
  pub left : All (λ o. 0 < o.leaves) xs
