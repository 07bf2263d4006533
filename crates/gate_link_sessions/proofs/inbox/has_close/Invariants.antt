use Rattle.std.proofs.Common.{◌≡◌, false, take}
use Rattle.std.specs.List.{list_any}
use Rattle.spread_rules.specs.Journal.{is_close}
use Rattle.gate_link_sessions.specs.Rows.{entry_events}
use Rattle.gate_link_sessions.proofs.inbox.has_close.Given as goal

abbrev pub invariant-loop-entry : goal.invariant-loop-entry
invariant-loop-entry l = list_any is_close (entry_events (take l.entry-index l.entries)) ≡ false
