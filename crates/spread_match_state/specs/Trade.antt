-- Which new orders the market takes.
use Rattle.std.specs.Prelude.{List, All}
use Rattle.spread_rules.specs.declared.event.Entry.{Entry}
use Rattle.spread_rules.specs.declared.event.Event.{Event}
use Rattle.spread_rules.specs.declared.event.Event.TheVariants.{New, Replace}
use Rattle.spread_rules_rulebook.specs.Prices.{IsOrderPrice}

-- the price of a new order, or of one in place of another, is within the limits of prices
abbrev pub IsPriced : Event → Type 0
IsPriced (New t) = IsOrderPrice t.price
IsPriced (Replace original t) = IsOrderPrice t.price
IsPriced _ = Unit {0}

abbrev pub ArePriced : List Entry → Type 0
ArePriced journal = All (λ e. IsPriced e.event) journal
