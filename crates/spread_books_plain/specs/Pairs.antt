-- The pairs of fronts that meet an order of one month and side, what they cost, and which costs the least.
use Rattle.std.specs.Prelude.{◌≡◌, ℕ, ℤ, ◌<◌, ◌≤◌, ◌+ℤ◌, ◌≤ℤ◌, nat_lt, Bool, true, cond, List, Option, Some, IfSome, IsSomeAnd}
use Rattle.spread_rules.specs.declared.order.Side.{Side}
use Rattle.spread_rules_rulebook.specs.declared.instrument.Instrument.{Instrument}
use Rattle.spread_rules_rulebook.specs.declared.instrument.Instrument.TheVariants.{Outright, Spread}
use Rattle.spread_rules_rulebook.specs.Prices.{IsLegPrice}
use Rattle.spread_rules.specs.declared.order.Order.{Order}
use Rattle.spread_rules.specs.Candidates.{Pairs, cost}
use Rattle.spread_rules.specs.Legs.{other_side}
use Rattle.spread_rules.specs.code.Quiet.{Rests}
use Rattle.spread_books_plain.specs.Queues.{IsFront}
use Rattle.spread_books_plain.specs.declared.pair.PairCost.{PairCost}

-- the spread of a month and another one
abbrev pub spread_of : ℕ → ℕ → Instrument
spread_of month other = cond (nat_lt month other) (Spread month other) (Spread other month)

-- on which side its orders meet a new order of that side and month
abbrev pub spread_side : Side → ℕ → ℕ → Side
spread_side side month other = cond (nat_lt month other) (other_side side) side

-- whether the pair of these two months takes part in implied trading
abbrev pub is_pair_on : Pairs → ℕ → ℕ → Bool
is_pair_on on month other =
    cond (nat_lt month other) (on month other) (on other month)

-- what two such orders together cost a new order of that side and month
abbrev pub cost_of_pair : Side → ℕ → ℕ → Order → Order → ℤ
cost_of_pair side month other a b =
    cost (other_side (spread_side side month other)) a.price
    +ℤ cost (other_side (other_side side)) b.price

-- two orders of the queues that meet a new order of that side and month together, where their pair of months takes part
pub record IsPair
    (on : Pairs) (xs : List Order) (side : Side) (month other : ℕ) (a b : Order) : Type 0 where
  pub is_on : is_pair_on on month other ≡ true
  pub first : Rests xs (spread_of month other) (spread_side side month other) a
  pub second : Rests xs (Outright other) (other_side side) b

-- the fronts of these queues, and what they cost
pub record HasFronts
    (on : Pairs) (xs : List Order) (side : Side) (month other : ℕ) (cost : ℤ) : Type 0 where
  pub is_on : is_pair_on on month other ≡ true
  pub a : Order
  pub b : Order
  pub first : IsFront xs (spread_of month other) (spread_side side month other) (Some a)
  pub second : IsFront xs (Outright other) (other_side side) (Some b)
  pub sum : cost ≡ cost_of_pair side month other a b

-- a pair of that other month costs no less, and has no earlier month where it costs the same
pub record IsNoCheaper (held : PairCost) (cost : ℤ) (other : ℕ) : Type 0 where
  pub no_less : held.cost ≤ℤ cost
  pub no_earlier : cost ≡ held.cost → held.other_month ≤ other

-- the fronts that cost the least among those of so many months whose pairs take part
pub record IsCheapest
    (on : Pairs) (xs : List Order) (side : Side) (month months : ℕ)
    (least : Option PairCost) : Type 0 where
  pub fronts : IfSome least (λ l. HasFronts on xs side month l.other_month l.cost)
  pub small : IfSome least (λ l. IsLegPrice l.cost)
  pub below : IfSome least (λ l. l.other_month < months)
  pub covers :
      (other : ℕ) (a b : Order) → other < months
      → IsPair on xs side month other a b
      → IsSomeAnd least (λ l. IsNoCheaper l (cost_of_pair side month other a b) other)
