-- How far prices may lie from zero, in hundredths.
use Rattle.std.specs.Prelude.{ℤ, neg_ℤ, ◌≤ℤ◌}
use Rattle.spread_rules_ids.specs.declared.limits.TheConstants as limits

-- a price of an order, or a month's reference price
pub record IsOrderPrice (price : ℤ) : Type 0 where
  pub low : neg_ℤ limits.MAX_PRICE ≤ℤ price
  pub high : price ≤ℤ limits.MAX_PRICE

-- a price of a leg: prices of two orders, added or subtracted
pub record IsLegPrice (price : ℤ) : Type 0 where
  pub low : neg_ℤ limits.MAX_LEG_PRICE ≤ℤ price
  pub high : price ≤ℤ limits.MAX_LEG_PRICE
