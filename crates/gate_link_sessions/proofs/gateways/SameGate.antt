-- A gateway whose parts are those of another is that one, whatever shows its fact.
use Rattle.std.proofs.Common.{◌≡◌, ap}
use Rattle.std.specs.List.{list_any}
use Rattle.std.proofs.Props.{props}
use Rattle.rtrb.specs.Ring.{sent}
use Rattle.spread_rules.specs.Journal.{is_close}
use Rattle.fix_session_judging.specs.Steps.{is_closed}
use Rattle.gate_link_sessions.specs.Rows.{entry_events}
use Rattle.gate_link_sessions.specs.declared.gateway.Gateway.{Gateway}

abbrev Fact : {A : Type 0} → Gateway A → Type 0
Fact g = is_closed g.reader.session ≡ list_any is_close (entry_events (sent g.producer))

abbrev shown : {A : Type 0} (g : Gateway A) → Fact g → Gateway A
shown g t = record { session = g.session; producer = g.producer; reader = g.reader; slice = g.slice; close_sent = t }

fact_prop : {A : Type 0} (g : Gateway A) → IsProp (Fact g)
fact_prop g = hlevel props

pub same_gate : {A : Type 0} (g : Gateway A) (t : Fact g) → shown g t ≡ g
same_gate g t = ap (shown g) (fact_prop g t g.close_sent)
