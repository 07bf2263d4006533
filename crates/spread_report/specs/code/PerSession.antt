-- What an entry, or the entries of a journal, send session s, from an outbound state on.
-- Words of the code alone.
use Rattle.std.specs.Prelude.{ℕ, ◌==◌, if◌then◌else◌, Bool, List, [], ◌∷◌, fold, Some}
use Rattle.std.specs.List.{concat}
use Rattle.fix_wire_frames.specs.declared.msg_types.TheConstants as msg_types
use Rattle.spread_rules.specs.declared.fill.Fill.{Fill}
use Rattle.spread_rules.specs.declared.event.Entry.{Entry}
use Rattle.spread_rules.specs.declared.event.Event.{Event}
use Rattle.spread_rules.specs.declared.event.Event.TheVariants.{Logon}
use Rattle.spread_rules.specs.declared.outcome.Outcome.{Outcome}
use Rattle.spread_rules_rulebook.specs.Rulebook.{Rules}
use Rattle.spread_report_outbound.specs.declared.session.OutboundSession.{OutboundSession}
use Rattle.spread_report_outbound.specs.Steps.{logged_on, steps_texts, after_step}
use Rattle.spread_report_outbound.specs.code.Steps.{outbound_before_logon}
use Rattle.spread_report.specs.Outgoing.{AppliedEntry, session_steps}
use Rattle.spread_report_outbound.specs.code.Addressed.{AddressedStep, numbered_message}
use Rattle.spread_report_outbound.specs.code.PerSession.{pass_limit, texts_to, messages_bytes, outbound_after, spends}
use Rattle.spread_report.specs.code.Addressed.{event_messages, entry_messages}
use Rattle.spread_report.specs.code.Reports.{logon_fields}

-- ---- an entry

-- the entry of that place, with its outcome and its fills
abbrev pub applied_at : ℕ → Entry → Outcome → List Fill → AppliedEntry
applied_at place entry outcome fills = record {
  place = place;
  entry = entry;
  outcome = outcome;
  fills = fills;
}

abbrev pub entry_texts : List ℕ → Rules → ℕ → OutboundSession → AppliedEntry → List (List ℕ)
entry_texts stamp rules s out w = texts_to stamp s out (entry_messages rules w)

abbrev pub entry_bytes : List ℕ → Rules → ℕ → OutboundSession → AppliedEntry → List ℕ
entry_bytes stamp rules s out w = messages_bytes stamp s out (entry_messages rules w)

abbrev pub entry_outbound : Rules → ℕ → OutboundSession → AppliedEntry → OutboundSession
entry_outbound rules s out w = outbound_after s out (entry_messages rules w)

abbrev pub entry_spends : Rules → ℕ → OutboundSession → AppliedEntry → Bool
entry_spends rules s out w = spends s out (entry_messages rules w)

-- the CompIDs that a Logon brings its session
abbrev pub opening : ℕ → Event → List AddressedStep
opening session (Logon client host beat) =
    record { to = session; step = logged_on (record { client = client; host = host }) } ∷ []
opening session _ = []

-- what an event sends when they are noted
abbrev pub noted_messages : Rules → ℕ → ℕ → Event → Outcome → List Fill → List AddressedStep
noted_messages rules place session (Logon client host beat) outcome fills =
    numbered_message session msg_types.LOGON (logon_fields beat) ∷ []
noted_messages rules place session event outcome fills =
    event_messages rules place session event outcome fills

-- the outbound state of session s when they are noted
abbrev pub outbound_at_entry : ℕ → OutboundSession → ℕ → Event → OutboundSession
outbound_at_entry s out session (Logon client host beat) =
    if session == s
    then record out { comp_ids = Some (record { client = client; host = host }) }
    else out
outbound_at_entry s out session _ = out

-- ---- a journal

abbrev pub texts_from : List ℕ → Rules → ℕ → OutboundSession → List AppliedEntry → List (List ℕ)
texts_from stamp rules s out ws = steps_texts stamp out (session_steps rules ws s)

abbrev pub journal_bytes : List ℕ → Rules → ℕ → OutboundSession → List AppliedEntry → List ℕ
journal_bytes stamp rules s out ws = concat (texts_from stamp rules s out ws)

abbrev pub outbound_from : Rules → ℕ → OutboundSession → List AppliedEntry → OutboundSession
outbound_from rules s out ws = fold after_step out (session_steps rules ws s)

abbrev pub spends_from : Rules → ℕ → OutboundSession → List AppliedEntry → Bool
spends_from rules s out ws = pass_limit out (session_steps rules ws s)

-- all that session s is sent over a journal, its first message bearing this number: the messages, and their bytes
abbrev pub messages_starting : ℕ → Rules → List ℕ → List AppliedEntry → ℕ → List (List ℕ)
messages_starting next rules stamp applied s =
    texts_from stamp rules s (outbound_before_logon next) applied

abbrev pub outgoing_starting : ℕ → Rules → List ℕ → List AppliedEntry → ℕ → List ℕ
outgoing_starting next rules stamp applied s =
    journal_bytes stamp rules s (outbound_before_logon next) applied
