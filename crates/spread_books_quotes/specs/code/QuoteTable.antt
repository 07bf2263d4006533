-- A table of the pairs of fronts that cost the least, one for each month and side, and when it stays one.
-- Words of the code alone.
use Rattle.std.specs.Prelude.{◌≡◌, ℕ, ◌*◌, ◌<◌, ◌≤◌, int_le, Bool, true, false, List, [], ◌∷◌, ◌++◌, Contains, All, Option, Some, None, slice_get, replicate}
use Rattle.spread_rules_ids.specs.declared.limits.TheConstants as limits
use Rattle.spread_rules.specs.declared.order.Side.{Side}
use Rattle.spread_rules_rulebook.specs.declared.instrument.Instrument.{Instrument}
use Rattle.spread_rules.specs.declared.order.Order.{Order}
use Rattle.spread_rules.specs.declared.order.Level.{Level}
use Rattle.spread_rules.specs.Candidates.{Pairs, cost}
use Rattle.spread_rules.specs.code.Candidates.{HasOrderPrice}
use Rattle.spread_rules.specs.Clearing.{removed}
use Rattle.spread_rules.specs.Legs.{other_side}
use Rattle.spread_books_rows.specs.Places.{Ascends}
use Rattle.spread_books_plain.specs.Queues.{IsFrontLevel}
use Rattle.spread_books_search.specs.Listed.{IsInMonths}
use Rattle.spread_books_plain.specs.Pairs.{IsCheapest}
use Rattle.spread_books_search.specs.code.Cheapest.{KeepsCost, KeepsOthers}
use Rattle.spread_books_quotes.specs.code.FrontCosts.{CostRows, AreFrontCosts, cell_of, no_costs}
use Rattle.spread_books_quotes.specs.code.PairsOn.{AreAllOn}
use Rattle.spread_books_quotes.specs.declared.quote_table.Change.{Change}
use Rattle.spread_books_quotes.specs.declared.quote_table.Change.TheVariants.{Came, Left}
use Rattle.spread_books_plain.specs.declared.pair.PairCost.{PairCost}

-- what the cell of that side and month has, none where the table has no such month
abbrev pub known_pair : List (Option PairCost) → Side → ℕ → Option (Option PairCost)
known_pair cells side month = slice_get cells (cell_of side month)

-- what it has costs the least
abbrev pub HasCheapest : Pairs → ℕ → List Order → List (Option PairCost) → Side → ℕ → Type 0
HasCheapest on months xs cells side month =
    (least : Option PairCost)
    → known_pair cells side month ≡ Some least
    → IsCheapest on xs side month months least

-- and so in each cell
abbrev pub AreCheapest : Pairs → ℕ → List Order → List (Option PairCost) → Type 0
AreCheapest on months xs cells =
    (side : Side) (month : ℕ)
    → month < months → HasCheapest on months xs cells side month

-- in no queue but that one the front costs something else
abbrev pub ChangesOneQueue : List Order → List Order → Instrument → Side → Type 0
ChangesOneQueue xs ys instrument side =
    (j : Instrument) (t : Side) → ((instrument ≡ j) × (side ≡ t) → ⊥) → KeepsCost xs ys j t

-- each of these orders is among those
abbrev pub AreAmong : List Order → List Order → Type 0
AreAmong xs ys = (o : Order) → Contains xs o → Contains ys o

-- where an order came, none left; where one left, none came
abbrev pub IsOneWay : Change → List Order → List Order → Type 0
IsOneWay Came xs ys = AreAmong xs ys
IsOneWay Left xs ys = AreAmong ys xs

-- the cells of the other side are as they were
abbrev pub KeepsOtherSide : Side → List (Option PairCost) → List (Option PairCost) → Type 0
KeepsOtherSide side old new =
    (t : Side) (m : ℕ) → (t ≡ side → ⊥) → known_pair new t m ≡ known_pair old t m

-- where an order of that other month came or left, and the fronts cost this now, the cell of that side and month has
-- the cheapest pair still
abbrev pub RenewsCell :
    Change → CostRows → ℕ → Side → ℕ → List (Option PairCost) → List (Option PairCost) → ℕ → Type 0
RenewsCell change costs months side via old new month =
    (on : Pairs) (xs ys : List Order)
    → AreFrontCosts on months ys costs
    → month < months
    → IsOneWay change xs ys
    → KeepsOthers xs ys side month via
    → HasCheapest on months xs old side month
    → HasCheapest on months ys new side month

-- whether an order at that level is as good as this one for who meets it
abbrev pub is_as_good : Option Level → Order → Bool
is_as_good None o = false
is_as_good (Some l) o =
    int_le (cost (other_side o.side) l.price) (cost (other_side o.side) o.price)

-- the order came, and the front of those that were in its queue stands there
pub record HasCome (xs ys : List Order) (o : Order) (others : Option Level) : Type 0 where
  pub is : ys ≡ xs ++ o ∷ []
  pub front : IsFrontLevel xs o.instrument o.side others

-- the order left, and the front of those that are in its queue stands there
pub record HasLeft (xs ys : List Order) (o : Order) (others : Option Level) : Type 0 where
  pub is : ys ≡ removed o.place xs
  pub ordered : Ascends xs
  pub stood : Contains xs o
  pub front : IsFrontLevel ys o.instrument o.side others

-- the order's months are below that number, and its price is within the range of orders
pub record IsListed (months : ℕ) (o : Order) : Type 0 where
  pub within : IsInMonths months o.instrument
  pub small : HasOrderPrice o

-- what the fronts cost, and which pairs cost the least
pub record QuotesView : Type 0 where
  pub costs : CostRows
  pub cells : List (Option PairCost)

-- of so many months where no order rests
abbrev pub no_quotes : ℕ → QuotesView
no_quotes months = record { costs = no_costs months; cells = replicate (months * 2) None }

-- the rows tell what the fronts cost, and each cell what costs the least
pub record AreQuotes (on : Pairs) (months : ℕ) (xs : List Order) (quotes : QuotesView) : Type 0 where
  pub costs : AreFrontCosts on months xs quotes.costs
  pub cheapest : AreCheapest on months xs quotes.cells

-- the orders are of so many months and at prices of orders, and the quotes are theirs
pub record IsQuoted
    (on : Pairs) (months : ℕ) (xs : List Order) (quotes : QuotesView) : Type 0 where
  pub small : All HasOrderPrice xs
  pub within : All (λ o. IsInMonths months o.instrument) xs
  pub hold : AreQuotes on months xs quotes

-- so it is as long as each order that came was of these months and at such a price
pub record KeepsQuotes
    (all_on listed : Bool) (on : Pairs) (months : ℕ) (xs : List Order)
    (quotes : QuotesView) : Type 0 where
  pub most : months ≤ limits.MAX_MONTHS
  pub all_are_on : all_on ≡ true → AreAllOn on
  pub quoted : listed ≡ true → IsQuoted on months xs quotes
