-- Resting orders by place: the list of them in order of place, and what rests at one.
use Rattle.std.specs.Prelude.{◌≡◌, ℕ, ◌<◌, List, map, Contains, All}
use Rattle.std.specs.Ordering.{nat_cmp}
use Rattle.std.specs.List.Sorted.{IsStrictlySortedBy}
use Rattle.spread_rules.specs.declared.order.Order.{Order}

-- the places rise
abbrev pub Ascends : List Order → Type 0
Ascends xs = IsStrictlySortedBy nat_cmp (map (λ o. o.place) xs)

-- an order of that place rests, with more than that left
pub record HasMore (xs : List Order) (place by : ℕ) : Type 0 where
  pub order : Order
  pub stands : Contains xs order
  pub at : order.place ≡ place
  pub each : All (λ o. o.place ≡ place → by < o.leaves) xs

pub record HasPlace (xs : List Order) (place : ℕ) : Type 0 where
  pub order : Order
  pub stands : Contains xs order
  pub at : order.place ≡ place
