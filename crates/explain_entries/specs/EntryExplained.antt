-- What is told of an entry: what rested before it, which order it names, and with which order it trades.
use Rattle.std.specs.Prelude.{ℕ, ◌==◌, if◌then◌else◌, List, Option, Some, None}
use Rattle.std.specs.List.{find}
use Rattle.std.specs.Option.{option_map}
use Rattle.spread_rules.specs.declared.order.Order.{Order}
use Rattle.spread_rules.specs.declared.event.Entry.{Entry}
use Rattle.spread_rules.specs.declared.event.Event.{Event}
use Rattle.spread_rules.specs.declared.event.Event.TheVariants.{New, Cancel, Replace}
use Rattle.spread_rules.specs.declared.outcome.Outcome.{Outcome}
use Rattle.spread_rules.specs.declared.outcome.Outcome.TheVariants.{Replaced, Refused}
use Rattle.spread_rules.specs.Clearing.{removed}
use Rattle.spread_rules.specs.Meaning.{is_own, order_of}
use Rattle.spread_rules.specs.code.Meaning.{meaning_of_journal}
use Rattle.spread_rules_rulebook.specs.Rulebook.{Rules, find_symbol}

-- the orders that rest behind these entries
abbrev pub standing_at : Rules → List Entry → List Order
standing_at rules before = (meaning_of_journal rules before).orders

-- the resting order that a cancel or a replace names
abbrev pub named_by : ℕ → Event → List Order → Option Order
named_by session (Cancel id original) xs = find (is_own session original) xs
named_by session (Replace original t) xs = find (is_own session original) xs
named_by session _ xs = None

-- all of these but the order that is replaced
abbrev pub others_of : Option Order → List Order → List Order
others_of None xs = xs
others_of (Some r) xs = removed r.place xs

-- The order that an entry of that place brings to be matched, where it brings one: what a new order asks for that is
-- not refused; of a replace the order that stands for another and loses its place, at the price that it asks for.
abbrev pub trader_of : Rules → ℕ → ℕ → Event → Outcome → Option Order
trader_of rules place session (New t) (Refused reason) = None
trader_of rules place session (New t) _ =
    option_map (order_of place session t) (find_symbol rules t.symbol)
trader_of rules place session (Replace original t) (Replaced r) =
    if r.place == place then Some (record r { price = t.price }) else None
trader_of rules place session _ _ = None
