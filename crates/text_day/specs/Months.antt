-- The lines of months: what was bought, sold, paid and received in each.
use Rattle.std.specs.Prelude.{ℕ, List, [], ◌∷◌, ◌++◌, codes, decimal}
use Rattle.std.specs.Fmt.{signed_decimal}
use Rattle.spread_rules.specs.declared.fill.Fill.{Fill}
use Rattle.spread_rules.specs.Legs.{lots, money}
use Rattle.spread_rules.specs.declared.order.Side.TheVariants.{Buy, Sell}
use Rattle.spread_rules_ids.specs.declared.bytes.TheConstants.{LINE_FEED, SPACE}

-- `M NAME BOUGHT SOLD PAID RECEIVED`, of the month with this number
abbrev pub month_line : List ℕ → ℕ → List Fill → List ℕ
month_line name m fills =
    codes "M " ++ name
    ++ (SPACE ∷ decimal (lots Buy m fills) ++ SPACE ∷ decimal (lots Sell m fills))
    ++ (SPACE ∷ signed_decimal (money Buy m fills) ++ SPACE ∷ signed_decimal (money Sell m fills))
    ++ LINE_FEED ∷ []
