-- Words of the code alone, beside `Meaning`: no promise of a whole day needs them to be read.
use Rattle.std.specs.Prelude.{ℕ, ◌+◌, ◌==◌, nat_le, nat_lt, pos, int_rem, Bool, false, not, ◌&&◌, ◌||◌, cond, if◌then◌else◌, List, [], ◌∷◌, ◌++◌, map, Option, Some, None, is_some, is_none, fold, Result, Err}
use Rattle.std.specs.List.{list_any, enumerate_from}
use Rattle.std.specs.Option.{ok_or}
use Rattle.std.specs.Str.{bytes_eq}
use Rattle.std.specs.Ordering.{int_eq}
use Rattle.spread_rules_ids.specs.declared.limits.TheConstants.{MAX_ORDER_QTY}
use Rattle.spread_rules.specs.declared.codes.ord_rej_reason.TheConstants as ord_rej_reason
use Rattle.spread_rules.specs.declared.codes.ord_status.TheConstants as ord_status
use Rattle.spread_rules.specs.declared.order.Order.{Order}
use Rattle.spread_rules_rulebook.specs.declared.instrument.Instrument.{Instrument}
use Rattle.spread_rules.specs.declared.fill.Fill.{Fill}
use Rattle.spread_rules.specs.declared.event.Ticket.{Ticket}
use Rattle.spread_rules.specs.declared.event.Entry.{Entry}
use Rattle.spread_rules.specs.declared.event.Event.{Event}
use Rattle.spread_rules.specs.declared.event.Event.TheVariants.{New, Replace}
use Rattle.spread_rules.specs.declared.outcome.OrderStatus.{OrderStatus}
use Rattle.spread_rules.specs.declared.outcome.Outcome.{Outcome}
use Rattle.spread_rules.specs.declared.outcome.Outcome.TheVariants.{CancelRefused}
use Rattle.spread_rules_rulebook.specs.Rulebook.{Rules}
use Rattle.spread_rules.specs.Clearing.{Trading}
use Rattle.spread_rules.specs.Amended.{done, with_quantity}
use Rattle.spread_rules.specs.Meaning.{EntryMeaning, is_filled, is_refused, meaning_with, place_left, untraded}

-- an earlier New or Replace entry: its place, whose it was, the id that it replaces, what it asked for, and what came
-- of it
pub record PastTicket : Type 0 where
  pub place : ℕ
  pub session : ℕ
  pub original : Option (List ℕ)
  pub ticket : Ticket
  pub outcome : Outcome

-- what came of the entries so far: the orders that rest, the New and Replace entries, and all fills
pub record JournalState : Type 0 where
  pub orders : List Order
  pub entered : List PastTicket
  pub fills : List Fill

-- before the first entry
abbrev pub no_entries : JournalState
no_entries = record { orders = []; entered = []; fills = [] }

abbrev pub names : List ℕ → Option (List ℕ) → Bool
names id None = false
names id (Some original) = bytes_eq original id

-- an order of the session took the place of the one with that id
abbrev pub is_replaced : ℕ → List ℕ → List PastTicket → Bool
is_replaced session id entered =
    list_any (λ p. p.session == session && names id p.original && not (is_refused p.outcome)) entered

-- how the order of a New or Replace entry stands after that past: rejected, filled whole, replaced, or canceled, the
-- first that holds
abbrev pub status_of : JournalState → PastTicket → OrderStatus
status_of past p = record {
  session = p.session;
  id = p.ticket.id;
  place = place_left p.place p.outcome;
  status =
      if is_refused p.outcome then ord_status.REJECTED
      else if is_filled p.session p.ticket.id past.fills then ord_status.FILLED
      else if is_replaced p.session p.ticket.id past.entered then ord_status.REPLACED
      else ord_status.CANCELED;
}

-- what an entry means after that past
abbrev pub meaning_of : Rules → JournalState → ℕ → Entry → EntryMeaning
meaning_of rules past place e =
    meaning_with rules past.orders (map (status_of past) past.entered) place e.session e.event

-- what is kept of a New or Replace entry
abbrev pub asked_by : ℕ → ℕ → Outcome → Event → List PastTicket
asked_by place session outcome (New t) =
    record { place = place; session = session; original = None; ticket = t; outcome = outcome } ∷ []
asked_by place session outcome (Replace id t) =
    record { place = place; session = session; original = Some id; ticket = t; outcome = outcome }
    ∷ []
asked_by place session outcome _ = []

abbrev pub after_entry : Rules → JournalState → ℕ → Entry → JournalState
after_entry rules past place e =
    let m = meaning_of rules past place e in
    let asked = asked_by place e.session m.outcome e.event in
    record { orders = m.orders; entered = past.entered ++ asked; fills = past.fills ++ m.fills }

-- what a journal means: its entries one after another, their places counted from 1
abbrev pub meaning_of_journal : Rules → List Entry → JournalState
meaning_of_journal rules entries =
    fold (λ past (place, e). after_entry rules past place e) no_entries (enumerate_from 1 entries)

-- The instrument, or why the ticket is refused, by the earlier order with its id and the instrument that it names:
-- `instrument_or_refusal_of` with both found beforehand.
abbrev pub refusal_or_instrument :
    Rules → Ticket → Option OrderStatus → Option Instrument → Result Instrument ℕ
refusal_or_instrument rules t earlier named =
    if is_some earlier then Err ord_rej_reason.DUPLICATE_ORDER
    else if is_none named then Err ord_rej_reason.UNKNOWN_SYMBOL
    else if t.quantity == 0 || nat_lt MAX_ORDER_QTY t.quantity then Err ord_rej_reason.EXCEEDS_LIMIT
    else if not (int_eq (int_rem t.price rules.tick) (pos 0)) then Err ord_rej_reason.OFF_TICK
    else ok_or named ord_rej_reason.UNKNOWN_SYMBOL

-- the id that a Replace entry names
abbrev pub original_of : Event → Option (List ℕ)
original_of (Replace original t) = Some original
original_of _ = None

-- what is kept of an entry that asks for so much
abbrev pub past_tickets : ℕ → ℕ → Outcome → Option (List ℕ) → Option Ticket → List PastTicket
past_tickets place session outcome original None = []
past_tickets place session outcome original (Some t) =
    record { place = place; session = session; original = original; ticket = t; outcome = outcome }
    ∷ []

-- the orders that rest after an order was traded so: the `rest` of `traded`
abbrev pub resting : Bool → Trading → List Order
resting immediate t = if t.new.leaves == 0 || immediate then t.orders else t.orders ++ t.new ∷ []

-- how the orders of the New and Replace entries stand
abbrev pub statuses_of : JournalState → List OrderStatus
statuses_of past = map (status_of past) past.entered

-- how an order that rests stands, part of it filled or nothing yet: the `status` of `replace_means`
abbrev pub resting_status : Order → ℕ
resting_status o = cond (done o == 0) ord_status.NEW ord_status.PARTIALLY_FILLED

-- a replace of a resting order is refused for that reason: the `refused` of `replace_means`
abbrev pub replace_refused : ℕ → Order → List Order → EntryMeaning
replace_refused reason r xs = untraded (CancelRefused reason r.place (resting_status r)) xs

-- at the same price and for no more, an order keeps its place
abbrev pub keeps_place : Ticket → Order → Bool
keeps_place t r = int_eq t.price r.price && nat_le t.quantity r.quantity

-- the same order at this entry's place and at the ticket's price: the `moved` of `replace_means`
abbrev pub moved_to : ℕ → Ticket → Order → Order
moved_to place t r = record (with_quantity t.id t.quantity r) { place = place; price = t.price }

-- the past with an entry that means this
abbrev pub with_meaning : JournalState → ℕ → Entry → EntryMeaning → JournalState
with_meaning past place e m = record {
  orders = m.orders;
  entered = past.entered ++ asked_by place e.session m.outcome e.event;
  fills = past.fills ++ m.fills;
}

-- the entries in order, from that place on
abbrev pub after_entries : Rules → JournalState → ℕ → List Entry → JournalState
after_entries rules past place entries =
    fold (λ past (place, e). after_entry rules past place e) past (enumerate_from place entries)

-- what came of each of the entries in order, from that place on
abbrev pub meanings_from : Rules → JournalState → ℕ → List Entry → List EntryMeaning
meanings_from rules past place [] = []
meanings_from rules past place (e ∷ es) =
    meaning_of rules past place e
    ∷ meanings_from rules (after_entry rules past place e) (place + 1) es

-- what came of each entry of a journal
abbrev pub meanings_of : Rules → List Entry → List EntryMeaning
meanings_of rules entries = meanings_from rules no_entries 1 entries

-- the outcomes of a journal's entries
abbrev pub outcomes_of : Rules → List Entry → List Outcome
outcomes_of rules entries = map (λ m. m.outcome) (meanings_of rules entries)
