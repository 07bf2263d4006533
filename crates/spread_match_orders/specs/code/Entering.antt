-- Resting orders with their statuses, and what becomes of the newest of them.
-- Words of the code alone.
use Rattle.std.specs.Prelude.{◌≡◌, ℕ, ◌-◌, ◌==◌, ◌||◌, if◌then◌else◌, Bool, List, All, Option, Some, option_map}
use Rattle.std.specs.List.{find}
use Rattle.spread_rules.specs.declared.codes.ord_status.TheConstants as ord_status
use Rattle.spread_rules.specs.declared.order.Order.{Order}
use Rattle.spread_rules.specs.declared.outcome.OrderStatus.{OrderStatus}
use Rattle.spread_rules.specs.Clearing.{clear, removed, reduced, Trading}
use Rattle.spread_rules.specs.Meaning.{has_id}
use Rattle.spread_rules_rulebook.specs.Rulebook.{implied, Rules, references_of}

-- The first status of an order that is not refused: what a late cancel is told of it once a cancel has ended it. While it
-- rests nobody is told its status from here.
abbrev pub entered_status : Order → OrderStatus
entered_status o = record {
  session = o.session;
  id = o.id;
  place = o.place;
  status = ord_status.CANCELED;
}

-- the place that the first status of that session and id names
abbrev pub place_of_id : List OrderStatus → ℕ → List ℕ → Option ℕ
place_of_id ss session id = option_map (λ s. s.place) (find (has_id session id) ss)

-- each order stands at the place that the status of its session and id names
abbrev pub HaveStatuses : List OrderStatus → List Order → Type 0
HaveStatuses ss xs = All (λ o. place_of_id ss o.session o.id ≡ Some o.place) xs

-- how that order is traded with all others
abbrev pub trading_of : Rules → Order → List Order → Trading
trading_of rules order xs =
    clear (implied rules) (references_of rules) order (removed order.place xs)

-- what the book does with the new order once it has traded
abbrev pub orders_after_trading : Bool → Order → ℕ → List Order → List Order
orders_after_trading immediate own left xs =
    if left == 0 || immediate then removed own.place xs
    else if left == own.leaves then xs
    else reduced own.place (own.leaves - left) xs
