-- The messages of an entry one after the other, each with the session that it goes to.
-- Words of the code alone.
use Rattle.std.specs.Prelude.{ℕ, List, ◌++◌}
use Rattle.spread_rules.specs.declared.fill.Fill.{Fill}
use Rattle.spread_rules.specs.declared.event.Event.{Event}
use Rattle.spread_rules.specs.declared.outcome.Outcome.{Outcome}
use Rattle.spread_rules_rulebook.specs.Rulebook.{Rules}
use Rattle.spread_report_orders.specs.code.Reports.{reports_from}
use Rattle.spread_report.specs.EntryMessages.{entry_reports, event_steps}
use Rattle.spread_report_outbound.specs.code.Addressed.{AddressedStep, steps_to}
use Rattle.spread_report.specs.Outgoing.{AppliedEntry}

-- what an event at its place sends, with its outcome and its fills
abbrev pub event_messages : Rules → ℕ → ℕ → Event → Outcome → List Fill → List AddressedStep
event_messages rules place session event outcome fills =
    steps_to session (event_steps event outcome)
    ++ reports_from place 1 (entry_reports rules place session event outcome fills)

-- what an entry sends, to whichever session
abbrev pub entry_messages : Rules → AppliedEntry → List AddressedStep
entry_messages rules w =
    event_messages rules w.place w.entry.session w.entry.event w.outcome w.fills
