-- Of which months an instrument is, and that a spread's near month comes before its far one.
use Rattle.std.specs.Prelude.{ℕ, ◌<◌}
use Rattle.spread_rules.specs.declared.order.Order.{Order}
use Rattle.spread_rules_rulebook.specs.declared.instrument.Instrument.{Instrument}
use Rattle.spread_rules_rulebook.specs.declared.instrument.Instrument.TheVariants.{Outright, Spread}

-- an instrument of so many months
abbrev pub IsInMonths : ℕ → Instrument → Type 0
IsInMonths months (Outright m) = m < months
IsInMonths months (Spread i j) = j < months

-- a spread's near month comes before its far one
abbrev pub IsNearBeforeFar : Instrument → Type 0
IsNearBeforeFar (Outright m) = Unit {0}
IsNearBeforeFar (Spread i j) = i < j

pub record IsNearFirst (o : Order) : Type 0 where
  pub near_before_far : IsNearBeforeFar o.instrument
