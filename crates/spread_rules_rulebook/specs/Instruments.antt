-- The month of an outright, and the far month of a spread.
use Rattle.std.specs.Prelude.{ℕ}
use Rattle.spread_rules_rulebook.specs.declared.instrument.Instrument.{Instrument}
use Rattle.spread_rules_rulebook.specs.declared.instrument.Instrument.TheVariants.{Outright, Spread}

abbrev pub month_of : Instrument → ℕ
month_of (Outright m) = m
month_of (Spread i j) = j
