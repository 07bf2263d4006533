-- What a market has at any moment: its rulebook, the orders that rest, and how the order of each New and Replace entry so far stands.
use Rattle.std.specs.Prelude.{ℕ, List, [], Option}
use Rattle.spread_rules.specs.declared.order.Order.{Order}
use Rattle.spread_rules.specs.declared.outcome.OrderStatus.{OrderStatus}
use Rattle.spread_rules_rulebook.specs.Rulebook.{Rules}

-- the orders that rest, the status of each New and Replace entry so far, the greatest place that was given, and the
-- rulebook by which the book quotes, where it quotes
pub record MarketState : Type 0 where
  pub orders : List Order
  pub statuses : List OrderStatus
  pub last : ℕ
  pub quotes_by : Option Rules

-- before the first entry, over a book that quotes by that rulebook
abbrev pub empty_state : Option Rules → MarketState
empty_state quotes_by = record { orders = []; statuses = []; last = 0; quotes_by = quotes_by }

-- a market: its rulebook and its state
pub record MarketView : Type 0 where
  pub rules : Rules
  pub state : MarketState
