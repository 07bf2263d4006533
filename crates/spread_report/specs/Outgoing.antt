-- What the entries of a journal send a session, step by step.
use Rattle.std.specs.Prelude.{ℕ, ◌+◌, ◌==◌, nat_lt, Bool, if◌then◌else◌, List, [], ◌++◌, map, filter, fold, None}
use Rattle.std.specs.List.{flat_map, enumerate_from}
use Rattle.spread_rules_ids.specs.declared.limits.TheConstants.{MAX_MSG_SEQ_NUM}
use Rattle.spread_rules.specs.declared.fill.Fill.{Fill}
use Rattle.spread_rules.specs.declared.event.Entry.{Entry}
use Rattle.spread_rules.specs.declared.outcome.Outcome.{Outcome}
use Rattle.spread_rules_rulebook.specs.Rulebook.{Rules}
use Rattle.spread_report_outbound.specs.Steps.{OutgoingStep, after_step}
use Rattle.spread_report_orders.specs.ExecutionReports.{ExecutionReport, report_step}
use Rattle.spread_report.specs.EntryMessages.{entry_reports, event_steps}

-- An entry at its place in the journal, with its outcome and its fills.
pub record AppliedEntry : Type 0 where
  pub place : ℕ
  pub entry : Entry
  pub outcome : Outcome
  pub fills : List Fill

-- The steps of session s that an entry makes: those of its event, where the entry is the session's own, and those of the
-- entry's reports, numbered from 1, that go to the session.
abbrev pub entry_steps : Rules → ℕ → AppliedEntry → List OutgoingStep
entry_steps rules s w =
    let e = w.entry in
    let reports = entry_reports rules w.place e.session e.event w.outcome w.fills in
    (if e.session == s then event_steps e.event w.outcome else [])
    ++ map (report_step w.place)
    (filter (λ (r : ℕ × ExecutionReport). r.1.to == s) (enumerate_from 1 reports))

-- the steps of session s over a journal
abbrev pub session_steps : Rules → List AppliedEntry → ℕ → List OutgoingStep
session_steps rules applied s = flat_map (entry_steps rules s) applied

-- A message that session s is sent over a journal would bear a number above the limit: the number that the session would
-- use next is more than one above it.
abbrev pub spends_numbers : Rules → List AppliedEntry → ℕ → Bool
spends_numbers rules applied s =
    let steps = session_steps rules applied s in
    nat_lt (MAX_MSG_SEQ_NUM + 1) (fold after_step (record { next = 1; comp_ids = None }) steps).next
