-- One turn of a new order, and the turns so far.
-- Words of the code alone.
use Rattle.std.specs.Prelude.{◌≡◌, ℕ, ◌<◌, List, length, get_or, Option, Some, None}
use Rattle.spread_rules.specs.declared.order.Order.{Order}
use Rattle.spread_rules.specs.code.Clearing.{begin, next_candidate}
use Rattle.spread_rules_rulebook.specs.Rulebook.{Rules, implied}
use Rattle.explain_turns.specs.declared.turn.ExplainedTurn.{ExplainedTurn}
use Rattle.explain_turns.specs.Explained.{IsTurn, after_turns}

-- what is told of the next turn of an order of which so much is left, if there is one
abbrev pub IsNextTurn : Rules → Order → List Order → Option ExplainedTurn → Type 0
IsNextTurn rules n xs None = next_candidate (implied rules) (begin n xs) ≡ None
IsNextTurn rules n xs (Some t) = IsTurn rules (begin n xs) t

-- so many turns are told, and the order and the list are as they leave them
pub record IsAfter
    (rules : Rules) (n : Order) (xs : List Order) (left : Order) (orders : List Order)
    (ts : List ExplainedTurn) : Type 0 where
  pub new : left ≡ (after_turns rules n xs (length ts)).new
  pub orders_are : orders ≡ (after_turns rules n xs (length ts)).orders
  pub each :
      (k : ℕ) (d : ExplainedTurn) → k < length ts → IsTurn rules (after_turns rules n xs k) (get_or ts k d)
  pub price : left.price ≡ n.price
