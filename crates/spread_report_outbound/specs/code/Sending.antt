-- What sending some messages does to the sessions, `a` before and `b` after, and to their lists, `x` before and `y`
-- after; and to an outbox, which lends both. Words of the code alone.
use Rattle.std.specs.Prelude.{◌≡◌, ℕ, ◌<◌, true, false, List, ◌++◌, length, take, slice_set, Result, Ok, Err}
use Rattle.std.specs.declared.vec.Vec.{Vec}
use Rattle.spread_rules_ids.specs.declared.limits.TheConstants.{SESSIONS}
use Rattle.spread_report_outbound.specs.declared.session.OutboundSession.{OutboundSession}
use Rattle.spread_report_outbound.specs.declared.fault.DeskFault.{DeskFault}
use Rattle.spread_report_outbound.specs.declared.fault.DeskFault.TheVariants.{NoMemory, NumbersSpent}
use Rattle.spread_report_outbound.specs.declared.outbox.Outbox.{Outbox}
use Rattle.spread_report_outbound.specs.code.Addressed.{AddressedStep}
use Rattle.spread_report_outbound.specs.Steps.{OutgoingStep, step_texts, after_step}
use Rattle.spread_report_outbound.specs.Rows.{IsRow}
use Rattle.spread_report_outbound.specs.code.PerSession.{message_bytes, is_above_limit, messages_bytes, texts_to, outbound_after, spends}
use Rattle.spread_report_outbound.specs.Sessions.{bytes_of}
use Rattle.spread_report_outbound.specs.code.Sessions.{outbound_at}

-- To one list of session s exactly the text of this step was appended, a row of whole frames, and the session's outbound
-- state went on with it.
pub record Appended (stamp : List ℕ) (s : ℕ) (a b : List OutboundSession) (x y : List ℕ)
    (step : OutgoingStep) : Type 0 where
  pub known : s < length a
  pub bytes : y ≡ x ++ message_bytes stamp (outbound_at a s) step
  pub outbound : b ≡ slice_set a s (after_step (outbound_at a s) step)
  pub unspent : is_above_limit (outbound_at a s) step ≡ false
  pub row : IsRow (step_texts stamp (outbound_at a s).comp_ids (outbound_at a s).next step)
      (message_bytes stamp (outbound_at a s) step)

-- to each session exactly what these messages send it was appended, a row of whole frames, and its
-- outbound state went on with them; its CompIDs stayed
pub record Sent {A : Type 0} (stamp : List ℕ) (a b : List OutboundSession) (x y : List (Vec ℕ A))
    (ms : List AddressedStep) : Type 0 where
  pub sessions : length b ≡ length a
  pub lists : length y ≡ length x
  pub bytes : (s : ℕ) → s < SESSIONS
      → bytes_of y s ≡ bytes_of x s ++ messages_bytes stamp s (outbound_at a s) ms
  pub outbound : (s : ℕ) → s < SESSIONS → outbound_at b s ≡ outbound_after s (outbound_at a s) ms
  pub comp_ids : (s : ℕ) → s < SESSIONS → (outbound_at b s).comp_ids ≡ (outbound_at a s).comp_ids
  pub unspent : (s : ℕ) → s < SESSIONS → spends s (outbound_at a s) ms ≡ false
  pub row : (s : ℕ) → s < SESSIONS
      → IsRow (texts_to stamp s (outbound_at a s) ms) (messages_bytes stamp s (outbound_at a s) ms)

-- to some sessions something was appended, and their CompIDs stayed
pub record OnlyAppended {A : Type 0} (a b : List OutboundSession)
    (x y : List (Vec ℕ A)) : Type 0 where
  pub sessions : length b ≡ length a
  pub lists : length y ≡ length x
  pub comp_ids : (s : ℕ) → s < SESSIONS → (outbound_at b s).comp_ids ≡ (outbound_at a s).comp_ids
  pub begins : (s : ℕ) → s < SESSIONS → take (length (bytes_of x s)) (bytes_of y s) ≡ bytes_of x s

-- one of the messages needs a number above the limit
pub record NumbersRunOut (a : List OutboundSession) (ms : List AddressedStep) : Type 0 where
  pub session : ℕ
  pub below : session < SESSIONS
  pub spent : spends session (outbound_at a session) ms ≡ true

-- what became of sending these messages
abbrev pub SendResult : {A T : Type 0} → List ℕ → List OutboundSession → List OutboundSession
    → List (Vec ℕ A) → List (Vec ℕ A) → List AddressedStep → Result T DeskFault → Type 0
SendResult stamp a b x y ms (Ok r) = Sent stamp a b x y ms
SendResult stamp a b x y ms (Err NoMemory) = OnlyAppended a b x y
SendResult stamp a b x y ms (Err NumbersSpent) = OnlyAppended a b x y × NumbersRunOut a ms

-- the sessions and the lists that were lent stay lent
pub record StaysLent {A : Type 0} (a b : Outbox A) : Type 0 where
  pub outbound : b.outbound.ghost_name ≡ a.outbound.ghost_name
  pub lists : b.lists.ghost_name ≡ a.lists.ghost_name

-- what became of the sessions and of their lists as these messages were sent
pub record Sends {A T : Type 0} (a b : Outbox A) (ms : List AddressedStep) (r : Result T DeskFault) : Type 0 where
  pub lent : StaysLent a b
  pub stamp : b.outbound.now.stamp ≡ a.outbound.now.stamp
  pub result : SendResult a.outbound.now.stamp a.outbound.now.sessions b.outbound.now.sessions a.lists.now b.lists.now
      ms r
