-- The day of streams in threads, and why it has none.
use Rattle.std.specs.Prelude.{◌≡◌, ℕ, ◌+◌, ◌<◌, ◌≤◌, ◌⊎◌, List, length, Vec}
use Rattle.spread_rules_ids.specs.declared.limits.TheConstants.{SESSIONS}
use Rattle.spread_rules.specs.Journal.{restricted}
use Rattle.spread_rules.specs.code.Meaning.{meaning_of_journal}
use Rattle.spread_rules_rulebook.specs.Rulebook.{Rules}
use Rattle.spread_report_outbound.specs.Rows.{IsRow}
use Rattle.spread_report.specs.Messages.{messages_to}
use Rattle.spread_report_outbound.specs.Sessions.{bytes_of}
use Rattle.apply_desk.specs.Applied.{IsPlaceOf, IsSpentOf, applied_entries, outgoing_bytes}
use Rattle.gate_link.specs.Opening.{IsRefusal}
use Rattle.live_sessions.specs.Streams.{IsBeginningWithin, all_events, whole_at}
use Rattle.live_day.specs.declared.fault.ThreadsFault.{ThreadsFault}
use Rattle.live_day.specs.declared.fault.ThreadsFault.TheVariants.{Link, Spawn, JournalFull, NoMemory, NumbersSpent}
use Rattle.live_day.specs.declared.conclusion.SessionsDay.{SessionsDay}

-- a session's thread, the matching thread behind the last session's, or behind that one a session's writer's
abbrev pub IsThread : ℕ → ℕ → Type 0
IsThread sessions k = k ≤ sessions + sessions

-- the link of gateways and sequencer was refused
abbrev pub IsLink : ThreadsFault → Type 0
IsLink (Link fault) = Unit {0}
IsLink _ = ⊥

-- why threads gave no day of these streams, over rings and with a journal of these sizes: a full journal comes only
-- where there are more events than it has room for, and the places are of a journal for which there is room
abbrev pub IsThreadsFault : {A : Type 0} → Rules → List (Vec ℕ A) → ℕ → ℕ → ThreadsFault → Type 0
IsThreadsFault rules streams ring journal (Link fault) = IsRefusal fault (length streams) ring journal
IsThreadsFault rules streams ring journal (Spawn k) = IsThread (length streams) k
IsThreadsFault rules streams ring journal JournalFull = journal < all_events streams
IsThreadsFault rules streams ring journal (NoMemory place) =
    (place ≡ 0) ⊎ IsPlaceOf (IsBeginningWithin streams journal) place
IsThreadsFault rules streams ring journal (NumbersSpent place) =
    IsSpentOf rules (IsBeginningWithin streams journal) place

-- The day of these streams: of each session the journal has exactly the events of its stream; the fills, and what each
-- session is sent, are those of the journal.
pub record IsDayOfSessions {A : Type 0} (rules : Rules) (stamp : List ℕ) (streams : List (Vec ℕ A)) (day : SessionsDay A) : Type 0 where
  pub parts : (s : ℕ) → restricted s day.journal.items ≡ whole_at streams s
  pub fills : day.applied.fills.items ≡ (meaning_of_journal rules day.journal.items).fills
  pub lists : length day.applied.out.items ≡ SESSIONS
  pub out : (s : ℕ) → s < SESSIONS
      → bytes_of day.applied.out.items s ≡ outgoing_bytes rules stamp day.journal.items s
  pub whole : (s : ℕ) → s < SESSIONS
      → IsRow (messages_to rules stamp (applied_entries rules day.journal.items) s)
      (bytes_of day.applied.out.items s)
