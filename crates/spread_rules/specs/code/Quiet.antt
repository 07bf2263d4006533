-- Words of the code alone, beside `Quiet`: no promise of a whole day needs them to be read.
use Rattle.std.specs.Prelude.{true, ◌≡◌, ℕ, ◌-ℤ◌, ◌≤ℤ◌, List, Contains}
use Rattle.spread_rules.specs.declared.order.Side.{Side}
use Rattle.spread_rules.specs.declared.order.Side.TheVariants.{Buy, Sell}
use Rattle.spread_rules_rulebook.specs.declared.instrument.Instrument.{Instrument}
use Rattle.spread_rules_rulebook.specs.declared.instrument.Instrument.TheVariants.{Outright, Spread}
use Rattle.spread_rules.specs.declared.order.Order.{Order}
use Rattle.spread_rules.specs.Candidates.{Pairs, is_within_limit}
use Rattle.spread_rules.specs.Legs.{other_side}

-- an order of the list, of that instrument and side: `Stands` as a record
pub record Rests
    (xs : List Order) (instrument : Instrument) (side : Side) (o : Order) : Type 0 where
  pub stands : Contains xs o
  pub instrument_is : o.instrument ≡ instrument
  pub side_is : o.side ≡ side

-- a buy and a sell of one instrument at prices that meet: what `IsQuiet.two` says there are none of
pub record TwoTrade (xs : List Order) : Type 0 where
  pub instrument : Instrument
  pub buy : Order
  pub sell : Order
  pub buys : Rests xs instrument Buy buy
  pub sells : Rests xs instrument Sell sell
  pub meet : sell.price ≤ℤ buy.price

-- Orders of a near month, a far month and the spread of the two that trade: the far one and the spread are on the other
-- side of the near one, and what the near price is above the far one is within the spread's limit. `IsQuiet.three` says
-- that there are none.
pub record ThreeTrade (on : Pairs) (xs : List Order) (side : Side) : Type 0 where
  pub i : ℕ
  pub j : ℕ
  pub traded : on i j ≡ true
  pub near : Order
  pub far : Order
  pub spread : Order
  pub nears : Rests xs (Outright i) side near
  pub fars : Rests xs (Outright j) (other_side side) far
  pub spreads : Rests xs (Spread i j) (other_side side) spread
  pub meet : is_within_limit (other_side side) spread.price (near.price -ℤ far.price) ≡ true
