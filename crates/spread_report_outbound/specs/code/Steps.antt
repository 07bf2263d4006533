-- Words of the code alone, beside `Steps`: no promise of a whole day needs them to be read.
use Rattle.std.specs.Prelude.{ℕ, None}
use Rattle.spread_report_outbound.specs.declared.session.OutboundSession.{OutboundSession}

-- before its Logon, with this next number
abbrev pub outbound_before_logon : ℕ → OutboundSession
outbound_before_logon next = record { next = next; comp_ids = None }
