-- The meaning of a journal before orders could be replaced, for the law that it stayed: what has changed since then, as
-- it stood.
use Rattle.std.specs.Prelude.{ℕ, ◌+◌, ◌==◌, cond, Bool, true, false, List, [], ◌∷◌, ◌++◌, map}
use Rattle.std.specs.List.{find}
use Rattle.spread_rules.specs.declared.codes.ord_status.TheConstants as ord_status
use Rattle.spread_rules.specs.declared.order.Order.{Order}
use Rattle.spread_rules.specs.declared.fill.Fill.{Fill}
use Rattle.spread_rules.specs.declared.event.Ticket.{Ticket}
use Rattle.spread_rules.specs.declared.event.Entry.{Entry}
use Rattle.spread_rules.specs.declared.event.Event.{Event}
use Rattle.spread_rules.specs.declared.event.Event.TheVariants.{New, Cancel, Replace}
use Rattle.spread_rules.specs.declared.outcome.OrderStatus.{OrderStatus}
use Rattle.spread_rules.specs.declared.outcome.Outcome.{Outcome}
use Rattle.spread_rules.specs.declared.outcome.Outcome.TheVariants.{Refused, Session}
use Rattle.spread_rules_rulebook.specs.Rulebook.{Rules}
use Rattle.spread_rules.specs.Meaning.{EntryMeaning, filled, is_own, has_id, instrument_or_refusal_of, new_means, cancel_means, untraded}

-- an earlier New entry: its place, whose it was, what it asked for, and what came of it
pub record PastNew : Type 0 where
  pub place : ℕ
  pub session : ℕ
  pub ticket : Ticket
  pub outcome : Outcome

-- what came of the entries so far: the orders that rest, the New entries, and all fills
pub record FirstState : Type 0 where
  pub orders : List Order
  pub entered : List PastNew
  pub fills : List Fill

-- before the first entry
abbrev pub no_entries : FirstState
no_entries = record { orders = []; entered = []; fills = [] }

abbrev pub is_refused : Outcome → Bool
is_refused (Refused reason) = true
is_refused _ = false

-- rejected, filled whole, or canceled
abbrev pub status_at : Outcome → ℕ → ℕ → ℕ
status_at outcome quantity done =
    cond (is_refused outcome) ord_status.REJECTED
    (cond (done == quantity) ord_status.FILLED ord_status.CANCELED)

-- how a New entry of the past stands after these fills
abbrev pub status_of : List Fill → PastNew → OrderStatus
status_of fills p = record {
  session = p.session;
  id = p.ticket.id;
  place = p.place;
  status = status_at p.outcome p.ticket.quantity (filled p.place fills);
}

abbrev pub statuses_of : FirstState → List OrderStatus
statuses_of past = map (status_of past.fills) past.entered

-- what an event means, with these orders resting and these New entries before it
abbrev pub meaning_with : Rules → List Order → List OrderStatus → ℕ → ℕ → Event → EntryMeaning
meaning_with rules xs earlier place session (New t) =
    new_means rules xs place session t (instrument_or_refusal_of rules earlier session t)
meaning_with rules xs earlier place session (Cancel id original) =
    cancel_means xs (find (has_id session original) earlier) (find (is_own session original) xs)
meaning_with rules xs earlier place session _ = untraded Session xs

-- what an entry means after that past
abbrev pub meaning_of : Rules → FirstState → ℕ → Entry → EntryMeaning
meaning_of rules past place e =
    meaning_with rules past.orders (statuses_of past) place e.session e.event

-- ---- the journal

abbrev pub new_of : ℕ → ℕ → Outcome → Event → List PastNew
new_of place session outcome (New t) =
    record { place = place; session = session; ticket = t; outcome = outcome } ∷ []
new_of place session outcome _ = []

abbrev pub with_meaning : FirstState → ℕ → Entry → EntryMeaning → FirstState
with_meaning past place e m = record {
  orders = m.orders;
  entered = past.entered ++ new_of place e.session m.outcome e.event;
  fills = past.fills ++ m.fills;
}

abbrev pub after_entry : Rules → FirstState → ℕ → Entry → FirstState
after_entry rules past place e = with_meaning past place e (meaning_of rules past place e)

-- what came of each of the entries in order, from that place on
abbrev pub meanings_from : Rules → FirstState → ℕ → List Entry → List EntryMeaning
meanings_from rules past place [] = []
meanings_from rules past place (e ∷ es) =
    meaning_of rules past place e
    ∷ meanings_from rules (after_entry rules past place e) (place + 1) es

-- what came of each entry of a journal
abbrev pub meanings_of : Rules → List Entry → List EntryMeaning
meanings_of rules entries = meanings_from rules no_entries 1 entries

-- an entry that version 1 of the journal has no line for
abbrev pub is_replace : Event → Bool
is_replace (Replace original t) = true
is_replace _ = false
