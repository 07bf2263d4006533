-- One message more is judged ahead.
-- Words of the code alone.
use Rattle.std.specs.Prelude.{◌≡◌, ℕ, ◌+◌, ◌≤◌, false, List, [], ◌∷◌, ◌++◌, Some, length, take, drop}
use Rattle.std.specs.List.{cons_option}
use Rattle.spread_rules.specs.declared.event.Entry.{Entry}
use Rattle.fix_wire_frames.specs.Frames.{frames}
use Rattle.fix_wire_frames.specs.Held.{first_frame, after_first_frame}
use Rattle.fix_wire_framer.specs.Pieces.{SplitsInto}
use Rattle.fix_session_judging.specs.declared.session.Session.{Session}
use Rattle.fix_session_judging.specs.declared.ahead.Ahead.{Ahead}
use Rattle.fix_session_judging.specs.Steps.{judge, event_in, is_closed, events_said, session_after}
use Rattle.fix_session_judging.specs.Reading.{entries_of}
use Rattle.fix_session_judging.specs.Ahead.{after_frames}

-- each of these messages came to an open session
abbrev pub AllOpen : Session → List (List ℕ) → Type 0
AllOpen s [] = Unit {0}
AllOpen s (f ∷ fs) = (is_closed s ≡ false) × AllOpen (judge s f).1 fs

-- so many messages were judged, whose events are the first of the entries
pub record HasJudgedFirst (number n : ℕ) (s : Session) (held : List ℕ) (entries : List Entry)
    (a : Ahead) : Type 0 where
  pub passed : List (List ℕ)
  pub count : length passed ≡ n
  pub messages : a.messages ≡ n
  pub unclosed : AllOpen s passed
  pub events : take a.events entries ≡ entries_of number (events_said s passed)
  pub few : a.events ≤ a.messages
  pub session : a.session ≡ session_after s passed
  pub place : a.place ≤ length held
  pub rest : drop a.place held ≡ after_frames a.messages held
  pub left : SplitsInto held passed (drop a.place held)

-- the next one was judged, and its event, if it has one, joined the entries
pub record JudgesOne (number : ℕ) (held : List ℕ) (entries : List Entry) (a : Ahead)
    (entries_next : List Entry) (b : Ahead) : Type 0 where
  pub message : List ℕ
  pub stands : first_frame (frames (drop a.place held)) ≡ Some message
  pub messages : b.messages ≡ a.messages + 1
  pub events : take b.events entries_next
      ≡ take a.events entries
      ++ entries_of number (cons_option (event_in (judge a.session message).0) [])
  pub few : b.events ≤ a.events + 1
  pub session : b.session ≡ (judge a.session message).1
  pub place : b.place ≤ length held
  pub rest : drop b.place held ≡ after_first_frame (drop a.place held)
