-- What a book of a rulebook's instruments has at any moment: the rulebook, and the orders that rest in order of place.
use Rattle.std.specs.Prelude.{List}
use Rattle.spread_rules.specs.declared.order.Order.{Order}
use Rattle.spread_rules_rulebook.specs.Rulebook.{Rules}

pub record BookView : Type 0 where
  pub rules : Rules
  pub orders : List Order
