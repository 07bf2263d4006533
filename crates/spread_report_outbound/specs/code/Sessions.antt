-- Words of the code alone, beside `Sessions`: no promise of a whole day needs them to be read.
use Rattle.std.specs.Prelude.{◌≡◌, ℕ, ◌<◌, List, [], map, nat_le, ◌&&◌, if◌then◌else◌, Option, Some, None, replicate, slice_index_or}
use Rattle.std.specs.declared.vec.Vec.{Vec}
use Rattle.spread_rules_ids.specs.declared.limits.TheConstants.{SESSIONS, MAX_MSG_SEQ_NUM}
use Rattle.spread_report_outbound.specs.declared.session.OutboundSession.{OutboundSession}
use Rattle.spread_report_outbound.specs.code.Steps.{outbound_before_logon}
use Rattle.spread_report_outbound.specs.Sessions.{bytes_of}

-- the texts of the sessions' lists
abbrev pub texts_of : {A : Type 0} → List (Vec ℕ A) → List (List ℕ)
texts_of {A} lists = map (λ (v : Vec ℕ A). v.items) lists

-- the text of session s
abbrev pub session_text : List (List ℕ) → ℕ → List ℕ
session_text texts s = slice_index_or texts s []

-- the outbound state of session s
abbrev pub outbound_at : List OutboundSession → ℕ → OutboundSession
outbound_at sessions s = slice_index_or sessions s (outbound_before_logon 1)

-- every list holds what it held
abbrev pub KeepsBytes : {A : Type 0} → List (Vec ℕ A) → List (Vec ℕ A) → Type 0
KeepsBytes x y = (s : ℕ) → s < SESSIONS → bytes_of y s ≡ bytes_of x s

-- What is kept of all sessions: the stamp that each message bears as its SendingTime, and the outbound state of each.
pub record OutboundState : Type 0 where
  pub stamp : List ℕ
  pub sessions : List OutboundSession

-- nobody has logged on, and each session's next number is this
abbrev pub sessions_starting : List ℕ → ℕ → OutboundState
sessions_starting stamp next = record {
  stamp = stamp;
  sessions = replicate SESSIONS (outbound_before_logon next);
}

-- a next number is at least 1 and within the limit
abbrev pub sessions_at : List ℕ → ℕ → Option OutboundState
sessions_at stamp next =
    if nat_le 1 next && nat_le next MAX_MSG_SEQ_NUM then Some (sessions_starting stamp next) else None
