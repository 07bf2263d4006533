-- What the fronts of queues cost, in rows by month, and when rows tell it.
-- Words of the code alone.
use Rattle.std.specs.Prelude.{◌≡◌, ℕ, ◌+◌, ◌*◌, ◌<◌, nat_lt, ℤ, ◌+ℤ◌, int_lt, Bool, true, false, cond, List, All, map, length, replicate, slice_get, slice_set, Option, Some, None, IfSome, unwrap_or}
use Rattle.std.specs.Ordering.{int_eq}
use Rattle.spread_rules_ids.specs.declared.limits.TheConstants.{MAX_MONTHS}
use Rattle.spread_rules.specs.declared.order.Side.{Side}
use Rattle.spread_rules_rulebook.specs.declared.instrument.Instrument.TheVariants.{Outright}
use Rattle.spread_rules.specs.declared.order.Order.{Order}
use Rattle.spread_rules.specs.Candidates.{Pairs}
use Rattle.spread_rules.specs.Legs.{other_side}
use Rattle.spread_rules_rulebook.specs.Prices.{IsOrderPrice}
use Rattle.spread_books_queues.specs.QueueRanks.{side_index}
use Rattle.spread_books_plain.specs.Pairs.{spread_of, spread_side, is_pair_on}
use Rattle.spread_books_plain.specs.declared.pair.PairCost.{PairCost}
use Rattle.spread_books_search.specs.code.Cheapest.{CostsOfFront}
use Rattle.spread_books_quotes.specs.declared.front_costs.TheConstants.{NO_COST, NO_PAIR}

-- for each side and month a row by the other month, and for each side one
pub record CostRows : Type 0 where
  pub spreads : List (Option ℤ)
  pub outrights : List (Option ℤ)

-- what a cell of so much tells
abbrev pub cost_of_cell : ℤ → Option ℤ
cost_of_cell cell = cond (int_eq cell NO_COST) None (Some cell)

-- what each of a row of cells tells
abbrev pub costs_of : List ℤ → List (Option ℤ)
costs_of cells = map cost_of_cell cells

-- the cell that stands there, and one of no cost where there is none
abbrev pub cell_at : List ℤ → ℕ → ℤ
cell_at cells n = unwrap_or (slice_get cells n) NO_COST

-- the pair that a cell has, none where it costs as much as no pair does
abbrev pub pair_of_cell : PairCost → Option PairCost
pair_of_cell cell = cond (int_lt cell.cost NO_PAIR) (Some cell) None

-- what each of a table of cells has
abbrev pub pairs_of : List PairCost → List (Option PairCost)
pairs_of cells = map pair_of_cell cells

-- which one is that side's of that month
abbrev pub cell_of : Side → ℕ → ℕ
cell_of side month = month * 2 + side_index side

abbrev pub row_cell : Side → ℕ → ℕ → ℕ
row_cell side month other = cell_of side month * MAX_MONTHS + other

abbrev pub joined : Option (Option ℤ) → Option ℤ
joined None = None
joined (Some cost) = cost

-- what stands there, none where there is no such cell
abbrev pub cost_at : List (Option ℤ) → ℕ → Option ℤ
cost_at costs n = joined (slice_get costs n)

abbrev pub AreOrderPrices : List (Option ℤ) → Type 0
AreOrderPrices costs = All (λ c. IfSome c IsOrderPrice) costs

-- the rows of so many months where no order rests
abbrev pub no_costs : ℕ → CostRows
no_costs months = record {
  spreads = replicate (months * 2 * MAX_MONTHS) None;
  outrights = replicate (2 * MAX_MONTHS) None;
}

abbrev pub sum_of : Option ℤ → Option ℤ → Option ℤ
sum_of None b = None
sum_of (Some a) None = None
sum_of (Some a) (Some b) = Some (a +ℤ b)

abbrev pub spread_cost : CostRows → Side → ℕ → ℕ → Option ℤ
spread_cost rows side month other = cost_at rows.spreads (row_cell side month other)

abbrev pub outright_cost : CostRows → Side → ℕ → Option ℤ
outright_cost rows side other = cost_at rows.outrights (row_cell side 0 other)

abbrev pub pair_cost_in : CostRows → Side → ℕ → ℕ → Option ℤ
pair_cost_in rows side month other =
    sum_of (spread_cost rows side month other) (outright_cost rows side other)

-- the front of the outrights of that side and month costs that
abbrev pub with_outright_cost : CostRows → Side → ℕ → Option ℤ → CostRows
with_outright_cost rows side month cost =
    record rows { outrights = slice_set rows.outrights (row_cell (other_side side) 0 month) cost }

abbrev pub set_if : Bool → List (Option ℤ) → ℕ → Option ℤ → List (Option ℤ)
set_if b costs n cost = cond b (slice_set costs n cost) costs

-- the front of the spreads of that side and these months costs that
abbrev pub with_spread_cost : CostRows → Side → ℕ → ℕ → Option ℤ → CostRows
with_spread_cost rows side near far cost = record rows {
  spreads = cond (nat_lt far near)
      (set_if (nat_lt near far) rows.spreads (row_cell (other_side side) near far) cost)
      (slice_set
      (set_if (nat_lt near far) rows.spreads (row_cell (other_side side) near far) cost)
      (row_cell side far near) cost);
}

-- what the front of the month's spread with that other month costs, none where their pair takes no part
pub record IsSpreadCost
    (on : Pairs) (xs : List Order) (side : Side) (month other : ℕ) (cost : Option ℤ) : Type 0 where
  pub is_on : is_pair_on on month other ≡ true
      → CostsOfFront xs (spread_of month other) (spread_side side month other) cost
  pub off : is_pair_on on month other ≡ false → cost ≡ None

-- the rows tell what the fronts of so many months cost
pub record AreFrontCosts
    (on : Pairs) (months : ℕ) (xs : List Order) (rows : CostRows) : Type 0 where
  pub spread_count : length rows.spreads ≡ months * 2 * MAX_MONTHS
  pub outright_count : length rows.outrights ≡ 2 * MAX_MONTHS
  pub spreads : (side : Side) (month other : ℕ) → month < months → other < months
      → IsSpreadCost on xs side month other (spread_cost rows side month other)
  pub outrights : (side : Side) (other : ℕ) → other < months
      → CostsOfFront xs (Outright other) (other_side side) (outright_cost rows side other)
