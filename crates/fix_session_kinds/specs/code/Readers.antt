-- The bytes behind references in a result, and what functions of the code answer on the way.
-- Words of the code alone.
use Rattle.std.specs.Prelude.{ℕ, Bool, ◌==◌, if◌then◌else◌, List, [], ◌∷◌, find, Result, Ok, Err, ok_or, codes}
use Rattle.std.specs.Str.{bytes_eq}
use Rattle.std.specs.Borrow.{Bor}
use Rattle.spread_rules.specs.declared.codes.session_reject_reason.TheConstants as reject
use Rattle.spread_rules.specs.declared.event.Ticket.{Ticket}
use Rattle.spread_rules.specs.declared.order.Side.{Side}
use Rattle.spread_rules.specs.declared.order.Side.TheVariants.{Buy, Sell}
use Rattle.spread_rules.specs.declared.codes.side.TheConstants as side_value
use Rattle.fix_wire_frames.specs.declared.field_values.TheConstants as field_values
use Rattle.fix_wire_frames.specs.declared.tags.TheConstants as tags
use Rattle.fix_session_kinds.specs.declared.table.Meaning.{Meaning}
use Rattle.fix_session_kinds.specs.declared.table.Meaning.TheVariants.{Nothing}
use Rattle.fix_session_kinds.specs.declared.table.OrderTexts.{OrderTexts}
use Rattle.fix_session_kinds.specs.Table.{◌>>=◌, value_at, choice_at, choice_or}

abbrev pub bytes_behind : Result (Bor (List ℕ)) ℕ → Result (List ℕ) ℕ
bytes_behind (Ok x) = Ok x.now
bytes_behind (Err e) = Err e

abbrev pub ticket_of : OrderTexts → Ticket
ticket_of o = record {
  id = o.id.now;
  symbol = o.symbol.now;
  side = o.side;
  quantity = o.quantity;
  price = o.price;
  immediate = o.immediate;
}

abbrev pub ticket_behind : Result OrderTexts ℕ → Result Ticket ℕ
ticket_behind (Ok o) = Ok (ticket_of o)
ticket_behind (Err e) = Err e

-- what is read of a message, SendingTime first
abbrev pub stamped : {A : Type 0} → List ℕ → Result A ℕ → Result A ℕ
stamped m read = value_at tags.SENDING_TIME m >>= λ stamp. read

-- a Heartbeat, and a Reject
abbrev pub passed_over : List ℕ → Result Meaning ℕ
passed_over m = stamped m (Ok Nothing)

-- whether an order is immediate
abbrev pub is_immediate_at : List ℕ → Result Bool ℕ
is_immediate_at m =
    choice_or (Ok field_values.DAY) (codes "03") tags.TIME_IN_FORCE m >>= λ b.
    Ok (b == field_values.IMMEDIATE_OR_CANCEL)

-- the byte of a text, where it is allowed and nothing else stands there
abbrev pub one_of : List ℕ → List ℕ → Result ℕ ℕ
one_of allowed text =
    ok_or (find (λ a. bytes_eq text (a ∷ [])) allowed) reject.VALUE_OUT_OF_RANGE

-- Side
abbrev pub side_at : List ℕ → Result Side ℕ
side_at m =
    choice_at (codes "12") tags.SIDE m >>= λ b.
    Ok (if b == side_value.BUY then Buy else Sell)
