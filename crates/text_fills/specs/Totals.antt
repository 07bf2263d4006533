-- What each month's fills sum to: lots bought and sold, money paid and received.
use Rattle.std.specs.Prelude.{◌≡◌, ℕ, ◌<◌, ◌≤◌, List, get_or}
use Rattle.spread_rules_ids.specs.declared.limits.TheConstants.{MAX_MONTHS, MAX_ORDER_QTY}
use Rattle.spread_rules_rulebook.specs.declared.instrument.Instrument.{Instrument}
use Rattle.spread_rules_rulebook.specs.declared.instrument.Instrument.TheVariants.{Outright, Spread}
use Rattle.spread_rules.specs.declared.fill.Fill.{Fill}
use Rattle.spread_rules.specs.code.Legs.{bought, sold, paid, received}
use Rattle.spread_rules_rulebook.specs.Prices.{IsLegPrice}
use Rattle.text_fills.specs.declared.totals.MonthTotals.{MonthTotals}

-- what these fills sum to in a month
abbrev pub totals_of : ℕ → List Fill → MonthTotals
totals_of month fills = record {
  bought = bought month fills;
  sold = sold month fills;
  paid = paid month fills;
  received = received month fills;
}

-- each of these is its month's sums, the first month first
abbrev pub AreTotals : List Fill → List MonthTotals → Type 0
AreTotals fills totals =
    (month : ℕ) (other : MonthTotals) → month < MAX_MONTHS
    → get_or totals month other ≡ totals_of month fills

-- the months of the instrument are below n
abbrev pub IsBelow : ℕ → Instrument → Type 0
IsBelow n (Outright m) = m < n
IsBelow n (Spread i j) = (i < n) × (j < n)

-- a quantity and prices for which a day's sums have room
abbrev pub IsSummable : Fill → Type 0
IsSummable f =
    (f.quantity ≤ MAX_ORDER_QTY) × IsLegPrice f.price × IsLegPrice f.near × IsLegPrice f.far
