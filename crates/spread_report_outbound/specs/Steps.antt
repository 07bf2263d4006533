-- A step of what a session is sent: the message that it is, and the session's next number and CompIDs after it.
use Rattle.std.specs.Prelude.{ℕ, ◌+◌, ◌==◌, nat_lt, Bool, true, false, ◌||◌, if◌then◌else◌, List, [], ◌∷◌, ◌++◌, codes, Option, Some}
use Rattle.std.specs.Option.{is_some}
use Rattle.fix_wire_frames.specs.declared.msg_types.TheConstants as msg_types
use Rattle.fix_wire_frames.specs.declared.tags.TheConstants as tags
use Rattle.fix_wire.specs.declared.writer.Field.{Field}
use Rattle.fix_wire.specs.declared.writer.Head.{Head}
use Rattle.fix_wire.specs.declared.writer.Value.TheVariants.{Text, Number}
use Rattle.fix_wire.specs.Layout.{field, message_text}
use Rattle.spread_report_outbound.specs.declared.session.OutboundSession.{OutboundSession}
use Rattle.spread_report_outbound.specs.declared.session.CompIds.{CompIds}

-- A step of what a session is sent: its Logon gives it the CompIDs that its messages bear from there on; a message
-- bears the session's next number and uses it; a gap fill uses none.
pub data OutgoingStep : Type 0 where
  logged_on : CompIds → OutgoingStep
  numbered : (kind : ℕ) (fields : List Field) → OutgoingStep
  gap_fill : (first last : ℕ) → OutgoingStep

-- the standard header's fields
abbrev pub head_of : List ℕ → CompIds → ℕ → ℕ → Bool → Head
head_of stamp ids kind n duplicate = record {
  kind = kind;
  number = n;
  duplicate = duplicate;
  sender = ids.host;
  target = ids.client;
  stamp = stamp;
}

-- The message that it sends, or none, where the session's next number is this. Before its Logon a session is sent
-- nothing. A gap fill is sent only where its first number was sent before; its NewSeqNo is the number behind the last
-- one asked for, or the next number where that is lower or no end was asked for, by a 0.
abbrev pub step_texts : List ℕ → Option CompIds → ℕ → OutgoingStep → List (List ℕ)
step_texts stamp (Some ids) next (numbered kind fields) =
    message_text (head_of stamp ids kind next false) fields ∷ []
step_texts stamp (Some ids) next (gap_fill first last) =
    let new_seq_no = if last == 0 || nat_lt next (last + 2) then next else last + 1 in
    if nat_lt first next
    then message_text (head_of stamp ids msg_types.SEQUENCE_RESET first true)
    (field tags.NEW_SEQ_NO (Number new_seq_no)
    ∷ field tags.GAP_FILL_FLAG (Text (codes "Y")) ∷ []) ∷ []
    else []
step_texts stamp _ next _ = []

-- the session's next number and its CompIDs after it: before its Logon the number stays
abbrev pub after_step : OutboundSession → OutgoingStep → OutboundSession
after_step out (logged_on ids) = record out { comp_ids = Some ids }
after_step out (numbered kind fields) =
    if is_some out.comp_ids then record out { next = out.next + 1 } else out
after_step out (gap_fill first last) = out

-- the messages that steps one after another send the session, from this number and these CompIDs on
abbrev pub steps_texts : List ℕ → OutboundSession → List OutgoingStep → List (List ℕ)
steps_texts stamp out [] = []
steps_texts stamp out (c ∷ cs) =
    step_texts stamp out.comp_ids out.next c ++ steps_texts stamp (after_step out c) cs
