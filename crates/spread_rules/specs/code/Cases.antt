-- Parts of the matching rule and of an entry's meaning, each under a name.
-- Words of the code alone.
use Rattle.std.specs.Prelude.{ℕ, ◌-◌, ◌==◌, ℤ, pos, ◌-ℤ◌, ◌*ℤ◌, nat_lt, Bool, false, ◌&&◌, if◌then◌else◌, List, get_or, Option, Some, None, Result}
use Rattle.spread_rules.specs.declared.codes.ord_status.TheConstants as ord_status
use Rattle.spread_rules_rulebook.specs.Instruments.{month_of}
use Rattle.spread_rules_rulebook.specs.Rulebook.{Rules}
use Rattle.spread_rules_rulebook.specs.declared.instrument.Instrument.{Instrument}
use Rattle.spread_rules_rulebook.specs.declared.instrument.Instrument.TheVariants.{Outright, Spread}
use Rattle.spread_rules.specs.declared.order.Side.{Side}
use Rattle.spread_rules.specs.declared.order.Order.{Order}
use Rattle.spread_rules.specs.declared.order.Level.{Level}
use Rattle.spread_rules.specs.declared.candidate.Candidate.{Candidate}
use Rattle.spread_rules.specs.declared.candidate.Counterparty.{Counterparty}
use Rattle.spread_rules.specs.declared.event.Ticket.{Ticket}
use Rattle.spread_rules.specs.declared.outcome.Outcome.TheVariants.{Replaced}
use Rattle.spread_rules.specs.Amended.{with_quantity}
use Rattle.spread_rules.specs.code.Amended.{amended}
use Rattle.spread_rules.specs.Candidates.{Pairs, price_of_three, is_before}
use Rattle.spread_rules.specs.code.Candidates.{candidate_of, better_by}
use Rattle.spread_rules.specs.Clearing.{Trading}
use Rattle.spread_rules.specs.Legs.{is_side}
use Rattle.spread_rules.specs.code.Legs.{Leg}
use Rattle.spread_rules.specs.Meaning.{EntryMeaning, outcome_of, traded, untraded, replace_means}

-- ---- candidates

-- the price, where the test holds
abbrev pub price_if : Bool → ℤ → Option ℤ
price_if test price = if test then Some price else None

-- the price that there is, where the test holds
abbrev pub offered_if : Bool → Option ℤ → Option ℤ
offered_if test price = if test then price else None

-- an order's instrument, side and price
abbrev pub level_of : Order → Level
level_of o = record { instrument = o.instrument; side = o.side; price = o.price }

-- the price at which two orders of these levels together meet the new order
abbrev pub price_at_levels : Pairs → Order → Level → Level → Option ℤ
price_at_levels on n a b =
    price_of_three on n.side n.instrument a.side a.instrument b.side b.instrument a.price b.price

-- the one of two that ranks first, the earlier one at a tie
abbrev pub better_of : Order → Option Candidate → Option Candidate → Option Candidate
better_of n = better_by (is_before n)

-- the best so far and one more counterparty
abbrev pub step : Pairs → Order → Option Candidate → Counterparty → Option Candidate
step on n best p = better_of n best (candidate_of on n p)

-- ---- fills

-- the leg prices of a match with two orders, of which the second has that instrument, of these limits
abbrev pub leg_prices_of_pair : Instrument → Instrument → ℤ → ℤ → ℤ → ℤ × ℤ
leg_prices_of_pair (Spread i j) second price first_limit second_limit = (first_limit, second_limit)
leg_prices_of_pair (Outright m) second price first_limit second_limit =
    if nat_lt m (month_of second) then (price, second_limit) else (second_limit, price)

-- the leg prices of a match with one order
abbrev pub leg_prices_of_single : List ℤ → Instrument → ℤ → ℤ × ℤ
leg_prices_of_single references (Outright m) price = (price, price)
leg_prices_of_single references (Spread i j) price =
    (get_or references i (pos 0), get_or references i (pos 0) -ℤ price)

-- so many lots fewer are left of an order of that place
abbrev pub with_less_left : ℕ → ℕ → Order → Order
with_less_left place by o = if o.place == place then record o { leaves = o.leaves - by } else o

-- an order of that place is amended
abbrev pub amended_at : ℕ → List ℕ → ℕ → Order → Order
amended_at place id quantity o = if o.place == place then with_quantity id quantity o else o

-- what a leg adds to its month's quantity and to its money, on that side
abbrev pub quantity_in : Side → ℕ → Leg → ℕ
quantity_in side month l = if is_side side l.side && l.month == month then l.quantity else 0

abbrev pub money_in : Side → ℕ → Leg → ℤ
money_in side month l =
    if is_side side l.side && l.month == month then pos l.quantity *ℤ l.price else pos 0

-- ---- entries

-- rejected, filled whole, replaced, or canceled: the first that holds
abbrev pub status_at : Bool → Bool → Bool → ℕ
status_at refused filled replaced =
    if refused then ord_status.REJECTED
    else if filled then ord_status.FILLED
    else if replaced then ord_status.REPLACED
    else ord_status.CANCELED

-- what a new order comes to that was traded so
abbrev pub clearing_means : Bool → Trading → EntryMeaning
clearing_means immediate t = traded (outcome_of immediate t.new.leaves) immediate t

-- an order keeps its place, and is amended there
abbrev pub keeping_means : List Order → Ticket → Order → EntryMeaning
keeping_means xs t r =
    untraded (Replaced (with_quantity t.id t.quantity r)) (amended r.place t.id t.quantity xs)

-- an order lost its place, and was traded so
abbrev pub moving_means : Order → Trading → EntryMeaning
moving_means o t = traded (Replaced o) false t

-- what a request comes to that a resting order be replaced
abbrev pub replace_of_resting :
    Rules → List Order → ℕ → Ticket → Result Instrument ℕ → Order → EntryMeaning
replace_of_resting rules xs place t instrument r =
    replace_means rules xs place t instrument None (Some r)
