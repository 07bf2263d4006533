-- What the fronts of queues cost, and what is known of the cheapest pair after a front has changed.
-- Words of the code alone.
use Rattle.std.specs.Prelude.{◌≡◌, ℕ, ℤ, int_lt, Bool, cond, List, Option, Some, None, ◌⊎◌}
use Rattle.std.specs.Ordering.{nat_cmp, int_cmp, ordering_then, is_lt}
use Rattle.spread_rules.specs.declared.order.Side.{Side}
use Rattle.spread_rules_rulebook.specs.declared.instrument.Instrument.{Instrument}
use Rattle.spread_rules_rulebook.specs.declared.instrument.Instrument.TheVariants.{Outright}
use Rattle.spread_rules.specs.declared.order.Order.{Order}
use Rattle.spread_rules.specs.Candidates.{Pairs, cost}
use Rattle.spread_rules.specs.code.Quiet.{Rests}
use Rattle.spread_rules.specs.Legs.{other_side}
use Rattle.spread_books_plain.specs.Pairs.{IsPair, HasFronts, spread_of, spread_side}
use Rattle.spread_books_plain.specs.Queues.{IsFront}
use Rattle.spread_books_plain.specs.declared.pair.PairCost.{PairCost}

-- the front of a queue, and what it costs
pub record HasFront
    (xs : List Order) (instrument : Instrument) (side : Side) (paid : ℤ) : Type 0 where
  pub front : Order
  pub is : IsFront xs instrument side (Some front)
  pub sum : paid ≡ cost (other_side side) front.price

-- what the front of a queue costs, and none where the queue is empty
abbrev pub CostsOfFront : List Order → Instrument → Side → Option ℤ → Type 0
CostsOfFront xs instrument side None = (o : Order) → Rests xs instrument side o → ⊥
CostsOfFront xs instrument side (Some paid) = HasFront xs instrument side paid

-- what the fronts of the two queues cost, and none where a queue is empty or the pair of months takes no part
abbrev pub CostsOfFronts : Pairs → List Order → Side → ℕ → ℕ → Option ℤ → Type 0
CostsOfFronts on xs side month other None =
    (a b : Order) → IsPair on xs side month other a b → ⊥
CostsOfFronts on xs side month other (Some cost) =
    HasFronts on xs side month other cost

-- the one of two that costs less, the earlier one where they cost the same
abbrev pub cheaper_of : Option PairCost → Option ℤ → ℕ → Option PairCost
cheaper_of least None other = least
cheaper_of None (Some cost) other = Some (record { cost = cost; other_month = other })
cheaper_of (Some held) (Some cost) other =
    cond (int_lt cost held.cost) (Some (record { cost = cost; other_month = other })) (Some held)

-- that queue is one of the two queues of that other month
abbrev pub IsInColumn : Instrument → Side → Side → ℕ → ℕ → Type 0
IsInColumn i s side month other =
    ((i ≡ spread_of month other) × (s ≡ spread_side side month other))
    ⊎ ((i ≡ Outright other) × (s ≡ other_side side))

-- ---- after a change

-- whatever the front of that queue cost, it costs the same
abbrev pub KeepsCost : List Order → List Order → Instrument → Side → Type 0
KeepsCost xs ys instrument side =
    (cost : Option ℤ) → CostsOfFront xs instrument side cost → CostsOfFront ys instrument side cost

-- so do the fronts of the two queues of that other month
pub record KeepsColumn (xs ys : List Order) (side : Side) (month other : ℕ) : Type 0 where
  pub first : KeepsCost xs ys (spread_of month other) (spread_side side month other)
  pub second : KeepsCost xs ys (Outright other) (other_side side)

-- so do the fronts of the queues of all other months but that one
abbrev pub KeepsOthers : List Order → List Order → Side → ℕ → ℕ → Type 0
KeepsOthers xs ys side month via =
    (other : ℕ) → (other ≡ via → ⊥) → KeepsColumn xs ys side month other

-- whether a pair of that month that costs so much takes the place of the one that is held
abbrev pub is_sooner : ℤ → ℕ → PairCost → Bool
is_sooner cost via held =
    is_lt (ordering_then (int_cmp cost held.cost) (nat_cmp via held.other_month))

-- the one of the two that costs less, the earlier month where they cost the same
abbrev pub sooner_of : ℤ → ℕ → PairCost → PairCost
sooner_of cost via held =
    cond (is_sooner cost via held) (record { cost = cost; other_month = via }) held
