-- A table of the best prices of the queues of early months.
use Rattle.std.specs.Prelude.{ℕ, ◌+◌, ◌*◌, nat_lt, Bool, ◌&&◌, List, Option, Some, None, if◌then◌else◌, slice_get, slice_set}
use Rattle.spread_rules.specs.declared.order.Side.{Side}
use Rattle.spread_rules_rulebook.specs.declared.instrument.Instrument.{Instrument}
use Rattle.spread_rules_rulebook.specs.declared.instrument.Instrument.TheVariants.{Outright, Spread}
use Rattle.spread_rules.specs.declared.order.Order.{Order}
use Rattle.spread_rules.specs.declared.order.Level.{Level}
use Rattle.spread_books_queues.specs.declared.front_table.TheConstants.{MONTHS}
use Rattle.spread_books_queues.specs.declared.front_table.BestPrice.{BestPrice}
use Rattle.spread_books_queues.specs.QueueRanks.{side_index}

-- the early months have slots
abbrev pub has_slot : Instrument → Bool
has_slot (Outright m) = nat_lt m MONTHS
has_slot (Spread i j) = nat_lt i MONTHS && nat_lt j MONTHS

abbrev pub slot_number : Instrument → Side → ℕ
slot_number (Outright m) side = m * 2 + side_index side
slot_number (Spread i j) side = ((i + 1) * MONTHS + j) * 2 + side_index side

abbrev pub slot_of : Instrument → Side → Option ℕ
slot_of instrument side = if has_slot instrument then Some (slot_number instrument side) else None

abbrev pub slot_in : List (Option BestPrice) → Option ℕ → Option (Option BestPrice)
slot_in slots None = None
slot_in slots (Some n) = slice_get slots n

-- what the slot of that queue has, none where it has no slot
abbrev pub known_price : List (Option BestPrice) → Instrument → Side → Option (Option BestPrice)
known_price slots instrument side = slot_in slots (slot_of instrument side)

abbrev pub put_in : List (Option BestPrice) → Option ℕ → Option BestPrice → List (Option BestPrice)
put_in slots None best = slots
put_in slots (Some n) best = slice_set slots n best

-- with that in the slot of that queue, if it has one
abbrev pub with_known_price :
    List (Option BestPrice) → Instrument → Side → Option BestPrice → List (Option BestPrice)
with_known_price slots instrument side best = put_in slots (slot_of instrument side) best

-- where an order stands in its queue
abbrev pub best_price_of : Order → BestPrice
best_price_of o = record { price = o.price; place = o.place }

-- the level of that queue at that price
abbrev pub level_at : Instrument → Side → BestPrice → Level
level_at instrument side b = record { instrument = instrument; side = side; price = b.price }
