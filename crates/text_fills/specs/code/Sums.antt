-- Sums of a month leg by leg, and the room that they take.
-- Words of the code alone.
use Rattle.std.specs.Prelude.{ℕ, ◌+◌, ◌*◌, ◌≤◌, ℤ, pos, neg_ℤ, ◌≤ℤ◌, ◌+ℤ◌, ◌*ℤ◌, List, get_or, set, fold, replicate}
use Rattle.spread_rules_ids.specs.declared.limits.TheConstants.{MAX_MONTHS, MAX_ORDER_QTY}
use Rattle.spread_rules.specs.declared.order.Side.{Side}
use Rattle.spread_rules.specs.declared.order.Side.TheVariants.{Buy, Sell}
use Rattle.spread_rules.specs.declared.fill.Fill.{Fill}
use Rattle.spread_rules.specs.code.Legs.{Leg, legs_in}
use Rattle.spread_rules_rulebook.specs.Prices.{IsLegPrice}
use Rattle.text_fills.specs.declared.totals.MonthTotals.{MonthTotals}

-- one more leg on that side
abbrev pub plus_leg : Side → ℕ → ℤ → MonthTotals → MonthTotals
plus_leg Buy quantity price t =
    record t { bought = t.bought + quantity; paid = t.paid +ℤ (pos quantity *ℤ price) }
plus_leg Sell quantity price t =
    record t { sold = t.sold + quantity; received = t.received +ℤ (pos quantity *ℤ price) }

abbrev pub empty_month : MonthTotals
empty_month = record { bought = 0; sold = 0; paid = pos 0; received = pos 0 }

-- all months without a leg
abbrev pub empty_months : List MonthTotals
empty_months = replicate MAX_MONTHS empty_month

-- the months' sums with one more leg, or with the legs of one more fill
abbrev pub with_leg : List MonthTotals → Leg → List MonthTotals
with_leg totals l =
    set totals l.month (plus_leg l.side l.quantity l.price (get_or totals l.month empty_month))

abbrev pub with_fill : List MonthTotals → Fill → List MonthTotals
with_fill totals f = fold with_leg totals (legs_in f)

-- a leg of at most the greatest quantity, at a price that a leg may have
pub record IsLegInRange (l : Leg) : Type 0 where
  pub quantity : l.quantity ≤ MAX_ORDER_QTY
  pub price : IsLegPrice l.price

-- the most money of a leg: the greatest quantity at the greatest price
abbrev pub most_money : ℕ
most_money = 1999998000000000

-- no sum is above that of n legs
pub record HasRoom (n : ℕ) (t : MonthTotals) : Type 0 where
  pub bought : t.bought ≤ MAX_ORDER_QTY * n
  pub sold : t.sold ≤ MAX_ORDER_QTY * n
  pub paid_low : neg_ℤ (pos (most_money * n)) ≤ℤ t.paid
  pub paid_high : t.paid ≤ℤ pos (most_money * n)
  pub received_low : neg_ℤ (pos (most_money * n)) ≤ℤ t.received
  pub received_high : t.received ≤ℤ pos (most_money * n)
