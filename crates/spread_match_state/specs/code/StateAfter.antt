-- The market's state after an entry: the orders that rest, and a status for each New and Replace entry in place of the
-- past.
-- Words of the code alone.
use Rattle.std.specs.Prelude.{ℕ, ◌≤◌, cond, List, [], ◌∷◌, ◌++◌, map, All, Option, Some, None}
use Rattle.std.specs.List.{find}
use Rattle.spread_rules.specs.declared.codes.ord_rej_reason.TheConstants as ord_rej_reason
use Rattle.spread_rules.specs.declared.codes.ord_status.TheConstants as ord_status
use Rattle.spread_rules.specs.declared.order.Order.{Order}
use Rattle.spread_rules.specs.code.Cases.{moving_means, replace_of_resting, clearing_means}
use Rattle.spread_rules.specs.Clearing.{clear, removed}
use Rattle.spread_rules.specs.declared.outcome.OrderStatus.{OrderStatus}
use Rattle.spread_rules_rulebook.specs.declared.instrument.Instrument.{Instrument}
use Rattle.spread_rules.specs.declared.event.Ticket.{Ticket}
use Rattle.spread_rules.specs.declared.event.Event.{Event}
use Rattle.spread_rules.specs.declared.outcome.Outcome.{Outcome}
use Rattle.spread_rules.specs.declared.outcome.Outcome.TheVariants.{Refused}
use Rattle.spread_match_trading.specs.Tradable.{IsTradable}
use Rattle.spread_match_orders.specs.code.Entering.{HaveStatuses}
use Rattle.spread_rules.specs.Meaning.{EntryMeaning, has_id, instrument_or_refusal_of, is_own, is_refused, meaning_with, order_of, place_left, ticket_of, untraded, cancel_means}
use Rattle.spread_rules.specs.code.Meaning.{moved_to, original_of}
use Rattle.spread_rules_rulebook.specs.Rulebook.{implied, Rules, references_of}
use Rattle.spread_match_state.specs.State.{MarketState}
use Rattle.spread_match_statuses.specs.code.Statuses.{status_after_replace, statuses_after}

abbrev pub statuses_after_replace :
    ℕ → Outcome → Option (List ℕ) → List OrderStatus → List OrderStatus
statuses_after_replace session outcome None ss = ss
statuses_after_replace session outcome (Some original) ss =
    cond (is_refused outcome) ss (map (status_after_replace session original) ss)

-- the status that an entry brings with it
abbrev pub first_status : ℕ → ℕ → Outcome → Option Ticket → List OrderStatus
first_status place session outcome None = []
first_status place session outcome (Some t) =
    record {
      session = session;
      id = t.id;
      place = place_left place outcome;
      status = cond (is_refused outcome) ord_status.REJECTED ord_status.CANCELED;
    } ∷ []

-- what an event comes to in that state
abbrev pub meaning_in : Rules → MarketState → ℕ → ℕ → Event → EntryMeaning
meaning_in rules m place session event = meaning_with rules m.orders m.statuses place session event

-- an id that was used is refused, whatever else the entry would come to
abbrev pub refused_if_used : Option OrderStatus → List Order → EntryMeaning → EntryMeaning
refused_if_used (Some earlier) xs e = untraded (Refused ord_rej_reason.DUPLICATE_ORDER) xs
refused_if_used None xs e = e

-- what a ticket comes to that is refused for that reason
abbrev pub refusal_in : MarketState → ℕ → Ticket → ℕ → EntryMeaning
refusal_in m session t reason =
    refused_if_used (find (has_id session t.id) m.statuses) m.orders
    (untraded (Refused reason) m.orders)

-- what a ticket of that instrument comes to: it is traded
abbrev pub matched_in : Rules → MarketState → ℕ → ℕ → Ticket → Instrument → EntryMeaning
matched_in rules m place session t i =
    refused_if_used (find (has_id session t.id) m.statuses) m.orders
    (clearing_means t.immediate
    (clear (implied rules) (references_of rules) (order_of place session t i) m.orders))

-- what a cancel of that order comes to
abbrev pub cancel_in : MarketState → ℕ → List ℕ → EntryMeaning
cancel_in m session original =
    cancel_means m.orders
    (find (has_id session original) m.statuses)
    (find (is_own session original) m.orders)

-- what a replace of that resting order comes to, where it is not refused and loses its place
abbrev pub moved_in : Rules → MarketState → ℕ → Ticket → Order → EntryMeaning
moved_in rules m place t r =
    moving_means (moved_to place t r)
    (clear (implied rules) (references_of rules) (moved_to place t r) (removed r.place m.orders))

-- what a replace of that resting order comes to
abbrev pub replaced_in : Rules → MarketState → ℕ → Ticket → Order → EntryMeaning
replaced_in rules m place t r =
    replace_of_resting rules m.orders place t
    (instrument_or_refusal_of rules m.statuses r.session t) r

-- the state after an entry that came to this
abbrev pub state_with : MarketState → ℕ → ℕ → Event → EntryMeaning → MarketState
state_with m place session event e = record m {
  orders = e.orders;
  statuses =
      statuses_after e.fills
      (statuses_after_replace session e.outcome (original_of event)
      (m.statuses ++ first_status place session e.outcome (ticket_of event)));
  last = place;
}

abbrev pub state_after : Rules → MarketState → ℕ → ℕ → Event → MarketState
state_after rules m place session event =
    state_with m place session event (meaning_in rules m place session event)

-- what has to hold of a market, so that the next entry can be applied
pub record IsReady (months : ℕ) (m : MarketState) : Type 0 where
  pub tradable : IsTradable months m.orders
  pub below : All (λ o. o.place ≤ m.last) m.orders
  pub known : HaveStatuses m.statuses m.orders
