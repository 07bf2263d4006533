-- The queue of one instrument and side: who comes first in it, and what rests.
use Rattle.std.specs.Prelude.{◌≡◌, Bool, false, ◌&&◌, cond, List, Option, Some, None, option_map, ℕ, ◌<◌, ◌≤◌, Contains, All}
use Rattle.std.specs.List.{find}
use Rattle.spread_rules_ids.specs.declared.limits.TheConstants as limits
use Rattle.spread_rules.specs.code.Cases.{level_of}
use Rattle.spread_rules.specs.Meaning.{is_own}
use Rattle.spread_rules.specs.Amended.{done}
use Rattle.std.specs.Ordering.{nat_cmp, int_cmp, ordering_then, is_lt}
use Rattle.std.specs.declared.cmp.Ordering.{Ordering}
use Rattle.spread_rules.specs.declared.order.Side.{Side}
use Rattle.spread_rules_rulebook.specs.declared.instrument.Instrument.{Instrument}
use Rattle.spread_rules.specs.declared.order.Order.{Order}
use Rattle.spread_rules.specs.declared.order.Level.{Level}
use Rattle.spread_rules.specs.Candidates.{same_instrument, cost}
use Rattle.spread_rules.specs.code.Candidates.{better_by}
use Rattle.spread_rules.specs.Legs.{other_side, is_side}
use Rattle.spread_rules.specs.code.Quiet.{Rests}

abbrev pub is_in : Instrument → Side → Order → Bool
is_in instrument side o = same_instrument o.instrument instrument && is_side o.side side

-- the better price for who meets it, then the earlier place
abbrev pub queue_cmp : Side → Order → Order → Ordering
queue_cmp side a b =
    ordering_then (int_cmp (cost (other_side side) a.price) (cost (other_side side) b.price))
    (nat_cmp a.place b.place)

abbrev pub is_ahead : Side → Order → Order → Bool
is_ahead side a b = is_lt (queue_cmp side a b)

-- none only where none of that instrument and side rests; else one ahead of which no other stands
abbrev pub IsFront : List Order → Instrument → Side → Option Order → Type 0
IsFront xs instrument side None = (o : Order) → Rests xs instrument side o → ⊥
IsFront xs instrument side (Some o) =
    Rests xs instrument side o
    × ((p : Order) → Rests xs instrument side p → is_ahead side p o ≡ false)

-- the front's instrument, side and price
abbrev pub IsFrontLevel : List Order → Instrument → Side → Option Level → Type 0
IsFrontLevel xs instrument side level =
    (front : Option Order) × IsFront xs instrument side front × (level ≡ option_map level_of front)

-- An order of that place rests, with less filled than that quantity, and its session has no resting order with that id.
pub record CanAmend
    (xs : List Order) (place : ℕ) (id : List ℕ) (quantity : ℕ) : Type 0 where
  pub order : Order
  pub stands : Contains xs order
  pub at : order.place ≡ place
  pub each : All (λ o. o.place ≡ place → done o < quantity) xs
  pub most : quantity ≤ limits.MAX_ORDER_QTY
  pub free : find (is_own order.session id) xs ≡ None

-- one more order looked at
abbrev pub front_step : Instrument → Side → Option Order → Order → Option Order
front_step instrument side found o =
    better_by (is_ahead side) found (cond (is_in instrument side o) (Some o) None)
