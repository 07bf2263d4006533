-- Why a replace of a resting order is refused.
-- Words of the code alone.
use Rattle.std.specs.Prelude.{ℕ, nat_le, not, if◌then◌else◌, Option, Some, None, Result}
use Rattle.spread_rules.specs.declared.codes.cxl_rej_reason.TheConstants as cxl_rej_reason
use Rattle.spread_rules.specs.declared.order.Order.{Order}
use Rattle.spread_rules.specs.declared.event.Ticket.{Ticket}
use Rattle.spread_rules.specs.Amended.{done}
use Rattle.spread_rules.specs.Meaning.{may_replace}
use Rattle.spread_rules_rulebook.specs.declared.instrument.Instrument.{Instrument}

-- why a replace of that resting order is refused, if it is
abbrev pub replace_refusal : Ticket → Order → Result Instrument ℕ → Option ℕ
replace_refusal t r instrument =
    if not (may_replace t r instrument) then Some cxl_rej_reason.BROKER_OPTION
    else if nat_le t.quantity (done r) then Some cxl_rej_reason.TOO_LATE
    else None
