-- What the messages of a finished list mean, place by place. A place is the index of a message in the list.
use Rattle.std.specs.Prelude.{ℕ, zero, suc, Bool, true, false, ◌&&◌, ◌||◌, not, ◌==◌, nat_lt, if◌then◌else◌, List, [], ◌∷◌, Option, Some, None, is_some, is_none, option_map, option_and_then, slice_get, filter_map, codes}
use Rattle.std.specs.Bool.{then_some}
use Rattle.std.specs.List.{enumerate_from}
use Rattle.std.specs.Option.{option_eq, option_map_or, option_or}
use Rattle.std.specs.Str.{bytes_eq}
use Rattle.spread_rules_ids.specs.declared.limits.TheConstants.{FIRST_MSG_SEQ_NUM}
use Rattle.spread_rules.specs.declared.codes.close_reason.TheConstants as close_reason
use Rattle.spread_rules.specs.declared.event.Event.{Event}
use Rattle.spread_rules.specs.declared.event.Event.TheVariants as variant
use Rattle.fix_wire_frames.specs.declared.msg_types.TheConstants as msg_types
use Rattle.fix_wire_frames.specs.declared.tags.TheConstants as tags
use Rattle.fix_wire_frames.specs.Messages.{get, kind}
use Rattle.fix_session_kinds.specs.Table.{meaning_of_message}
use Rattle.fix_session_judging.specs.declared.session.Logon.{Logon}
use Rattle.fix_session_judging.specs.View.{Numbered, logon_of, event_of_accepted, due_after_accepted}

-- the message has the CompIDs of the session's Logon, which is the first message, where that is a lawful one. Rule S4.
abbrev pub has_comp_ids : List Numbered → Numbered → Bool
has_comp_ids ms m =
    let logon = option_and_then (λ first. logon_of first.text first.number) (slice_get ms 0) in
    option_map_or (λ l. option_eq bytes_eq (get tags.SENDER_COMP_ID m.text) (Some l.client)
    && option_eq bytes_eq (get tags.TARGET_COMP_ID m.text) (Some l.host)) logon false

-- a live message at a place, where `due` is due: it is accepted. Rule S7.
abbrev pub is_accepted : List Numbered → ℕ → ℕ → Numbered → Bool
is_accepted ms zero due m = is_some (logon_of m.text m.number)
is_accepted ms (suc p) due m = has_comp_ids ms m && (m.number == due)

-- A live message at a place, where `due` is due: why it closes the session. A number below the due one is no reason
-- where PossDupFlag says that the message may be a duplicate. Rules S3, S4, S5.
abbrev pub closing : List Numbered → ℕ → ℕ → Numbered → Option ℕ
closing ms zero due m = then_some (is_none (logon_of m.text m.number)) close_reason.NO_LOGON
closing ms (suc p) due m =
    if not (has_comp_ids ms m) then Some close_reason.COMP_ID
    else (if nat_lt m.number due
    && not (option_eq bytes_eq (get tags.POSS_DUP_FLAG m.text) (Some (codes "Y")))
    then Some close_reason.MSG_SEQ_NUM_TOO_LOW
    else then_some ((m.number == due) && bytes_eq (kind m.text) (msg_types.LOGOUT ∷ []))
    close_reason.LOGOUT)

-- the number due at a place: the first number, and then the one after the last accepted message before the place
-- Rule S7.
abbrev pub due : List Numbered → ℕ → ℕ
due ms zero = FIRST_MSG_SEQ_NUM
due ms (suc p) = option_map_or (λ m. if is_accepted ms p (due ms p) m
    then due_after_accepted m.number (meaning_of_message m.text m.number)
    else due ms p) (slice_get ms p) (due ms p)

-- a place is live if no earlier place is closing. Rule S1.
abbrev pub live : List Numbered → ℕ → Bool
live ms zero = true
live ms (suc p) = live ms p && is_none (option_and_then (closing ms p (due ms p)) (slice_get ms p))

-- a gap is open at a place: a message behind the last accepted one has a number above the due one. Rule S6.
abbrev pub has_open_gap : List Numbered → ℕ → Bool
has_open_gap ms zero = false
has_open_gap ms (suc p) = option_map_or (λ m. not (is_accepted ms p (due ms p) m)
    && (has_open_gap ms p || nat_lt (due ms p) m.number)) (slice_get ms p) false

-- the event of a live place that doesn't close: a Logon, what an accepted message gives, or a gap that is not open yet
abbrev pub event_of : List Numbered → ℕ → Numbered → Option Event
event_of ms zero m =
    option_map (λ l. variant.Logon l.client l.host l.beat) (logon_of m.text m.number)
event_of ms (suc p) m =
    let d = due ms (suc p) in
    if is_accepted ms (suc p) d m
    then event_of_accepted m.number (meaning_of_message m.text m.number)
    else then_some (nat_lt d m.number && not (has_open_gap ms (suc p))) (variant.Gap d)

-- the event of the message m at a place. Rule S1.
abbrev pub event : List Numbered → ℕ → Numbered → Option Event
event ms p m =
    if live ms p
    then option_or (option_map variant.Close (closing ms p (due ms p) m)) (event_of ms p m)
    else None

-- the events of the places in order
abbrev pub message_events : List Numbered → List Event
message_events ms = filter_map (λ place. event ms place.0 place.1) (enumerate_from 0 ms)
