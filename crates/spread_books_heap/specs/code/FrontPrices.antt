-- The best prices that a book has at hand: those of its fronts.
-- Words of the code alone.
use Rattle.std.specs.Prelude.{◌≡◌, ℕ, ◌==◌, Bool, true, List, Option, Some, None, option_map}
use Rattle.std.specs.Ordering.{nat_cmp, int_cmp, ordering_then, is_lt}
use Rattle.spread_rules.specs.declared.order.Side.{Side}
use Rattle.spread_rules_rulebook.specs.declared.instrument.Instrument.{Instrument}
use Rattle.spread_rules.specs.declared.order.Order.{Order}
use Rattle.spread_rules.specs.Candidates.{cost}
use Rattle.spread_rules.specs.Legs.{other_side}
use Rattle.spread_books_queues.specs.FrontTable.{known_price, best_price_of}
use Rattle.spread_books_queues.specs.declared.front_table.BestPrice.{BestPrice}
use Rattle.spread_books_plain.specs.Queues.{IsFront}

-- the price and the place of the front
abbrev pub IsBestPrice : List Order → Instrument → Side → Option BestPrice → Type 0
IsBestPrice xs instrument side best =
    (front : Option Order)
    × IsFront xs instrument side front × (best ≡ option_map best_price_of front)

-- each slot has the price and the place of its queue's front
abbrev pub HoldsPrices : List Order → List (Option BestPrice) → Type 0
HoldsPrices xs slots =
    (instrument : Instrument) (side : Side) (best : Option BestPrice)
    → known_price slots instrument side ≡ Some best → IsBestPrice xs instrument side best

-- who stands there is ahead of who stands at the other one, in the queue of that side
abbrev pub is_ahead_of : Side → BestPrice → BestPrice → Bool
is_ahead_of side a b =
    is_lt (ordering_then
    (int_cmp (cost (other_side side) a.price) (cost (other_side side) b.price))
    (nat_cmp a.place b.place))

-- an order is ahead of whoever is the front
abbrev pub becomes_front : Order → Option BestPrice → Bool
becomes_front o None = true
becomes_front o (Some b) = is_ahead_of o.side (best_price_of o) b

-- no other order is known to be that front
abbrev pub may_be_front : Option BestPrice → ℕ → Bool
may_be_front None place = true
may_be_front (Some b) place = b.place == place
