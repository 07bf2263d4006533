-- What a session reads in a message.
use Rattle.std.specs.Prelude.{ℕ, ◌+◌, ◌&&◌, not, ◌==◌, List, [], ◌∷◌, Option, Some, None, Result, Ok, Err, if◌then◌else◌, codes}
use Rattle.std.specs.Result.{result_ok}
use Rattle.std.specs.Str.{bytes_eq}
use Rattle.spread_rules_ids.specs.declared.limits.TheConstants.{FIRST_MSG_SEQ_NUM}
use Rattle.spread_rules.specs.declared.event.Event.{Event}
use Rattle.spread_rules.specs.declared.event.Event.TheVariants as events
use Rattle.fix_wire_frames.specs.declared.msg_types.TheConstants as msg_types
use Rattle.fix_wire_frames.specs.declared.tags.TheConstants as tags
use Rattle.fix_wire_values.specs.Values.{number_in}
use Rattle.fix_wire_frames.specs.Messages.{kind, number}
use Rattle.fix_session_kinds.specs.declared.table.Meaning.{Meaning}
use Rattle.fix_session_kinds.specs.declared.table.Meaning.TheVariants.{Says, GapFill}
use Rattle.fix_session_kinds.specs.Table.{◌>>=◌, value_at, id_at, choice_at, read_at}
use Rattle.fix_session_judging.specs.declared.session.Logon.{Logon}

-- ---- the Logon

-- what a lawful Logon says: it has the first number and a SendingTime, and asks for no encryption. Rule S3.
unfoldable pub logon_of : List ℕ → ℕ → Option Logon
logon_of m n = if not (bytes_eq (kind m) (msg_types.LOGON ∷ []) && (n == FIRST_MSG_SEQ_NUM))
    then None else result_ok do
      stamp ← value_at tags.SENDING_TIME m
      method ← choice_at (codes "0") tags.ENCRYPT_METHOD m
      client ← id_at tags.SENDER_COMP_ID m
      host ← id_at tags.TARGET_COMP_ID m
      beat ← read_at number_in tags.HEART_BT_INT m
      Ok (record { client = client; host = host; beat = beat })

-- ---- a later message

-- the event of an accepted message with number n: what its kind gives, or a Reject
abbrev pub event_of_accepted : ℕ → Result Meaning ℕ → Option Event
event_of_accepted n (Ok (Says e)) = Some e
event_of_accepted n (Err reason) = Some (events.Reject n reason)
event_of_accepted n _ = None

-- the number due after it: a lawful gap fill's new one, else the next. Rule S7.
abbrev pub due_after_accepted : ℕ → Result Meaning ℕ → ℕ
due_after_accepted n (Ok (GapFill next)) = next
due_after_accepted n _ = n + 1

-- ---- messages with their numbers

pub record Numbered : Type 0 where
  pub number : ℕ
  pub text : List ℕ
