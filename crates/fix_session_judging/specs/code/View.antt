-- Words of the code alone, beside `View`: no promise of a whole day needs them to be read.
use Rattle.std.specs.Prelude.{ℕ, ◌+◌, Bool, ◌&&◌, ◌==◌, List, [], ◌∷◌, Option, Some, option_map, if◌then◌else◌, codes}
use Rattle.std.specs.Option.{option_eq}
use Rattle.std.specs.Str.{bytes_eq}
use Rattle.spread_rules.specs.declared.event.Event.{Event}
use Rattle.fix_wire_frames.specs.declared.msg_types.TheConstants as msg_types
use Rattle.fix_wire_frames.specs.declared.tags.TheConstants as tags
use Rattle.fix_wire_frames.specs.Messages.{get, kind, number}
use Rattle.fix_session_kinds.specs.Table.{◌>>=◌, meaning_of_message}
use Rattle.fix_session_judging.specs.declared.session.Logon.{Logon}
use Rattle.fix_session_judging.specs.View.{Numbered, due_after_accepted, event_of_accepted, logon_of}

-- a frame and its number, where that can be read
abbrev pub numbered : List ℕ → Option Numbered
numbered m = option_map (λ n. record { number = n; text = m }) (number m)

-- it stands, and is this text
abbrev pub is_same_text : Option (List ℕ) → List ℕ → Bool
is_same_text found text = option_eq bytes_eq found (Some text)

-- the message is from this client, to this host
abbrev pub is_between : Numbered → List ℕ → List ℕ → Bool
is_between m client host =
    is_same_text (get tags.SENDER_COMP_ID m.text) client
    && is_same_text (get tags.TARGET_COMP_ID m.text) host

-- what it says as a lawful Logon
abbrev pub logon_in : Numbered → Option Logon
logon_in m = logon_of m.text m.number

-- it may be a duplicate; it is a Logout
abbrev pub repeats : Numbered → Bool
repeats m = is_same_text (get tags.POSS_DUP_FLAG m.text) (codes "Y")

abbrev pub is_logout : Numbered → Bool
is_logout m = bytes_eq (kind m.text) (msg_types.LOGOUT ∷ [])

-- the number due after it, and its event, where it is accepted
abbrev pub next_due : Numbered → ℕ
next_due m = due_after_accepted m.number (meaning_of_message m.text m.number)

abbrev pub event_given : Numbered → Option Event
event_given m = event_of_accepted m.number (meaning_of_message m.text m.number)

-- a message whose number is n
abbrev pub view_with : List ℕ → ℕ → Numbered
view_with m n = record { number = n; text = m }
