-- The numbers that FIX 4.2 gives to sides, to the statuses of orders, and to the parts of a fill.
use Rattle.std.specs.Prelude.{ℕ}
use Rattle.spread_rules.specs.declared.order.Side.{Side}
use Rattle.spread_rules.specs.declared.order.Side.TheVariants.{Buy, Sell}

-- Side, tag 54
abbrev pub side_code : Side → ℕ
side_code Buy = 1
side_code Sell = 2
