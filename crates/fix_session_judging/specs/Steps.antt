-- What one message makes of a session.
use Rattle.std.specs.Prelude.{ℕ, Bool, true, false, not, nat_lt, List, [], ◌∷◌, Option, Some, None, if◌then◌else◌}
use Rattle.std.specs.List.{cons_option}
use Rattle.spread_rules.specs.Journal.{is_close}
use Rattle.spread_rules.specs.declared.codes.close_reason.TheConstants as close_reason
use Rattle.spread_rules.specs.declared.event.Event.{Event}
use Rattle.spread_rules.specs.declared.event.Event.TheVariants as events
use Rattle.fix_session_judging.specs.declared.session.Logon.{Logon}
use Rattle.fix_session_judging.specs.declared.session.Verdict.{Verdict}
use Rattle.fix_session_judging.specs.declared.session.Verdict.TheVariants as verdicts
use Rattle.fix_session_judging.specs.declared.session.Running.{Running}
use Rattle.fix_session_judging.specs.declared.session.State.{State}
use Rattle.fix_session_judging.specs.declared.session.State.TheVariants as states
use Rattle.fix_session_judging.specs.declared.session.Session.{Session}
use Rattle.fix_session_judging.specs.View.{Numbered}
use Rattle.fix_session_judging.specs.code.View.{is_between, numbered, next_due, event_given, logon_in, is_logout, repeats}

abbrev pub new_session : Session
new_session = record { state = states.Before }

abbrev pub running : Running → Session
running r = record { state = states.Running r }

abbrev pub closed : Session
closed = record { state = states.Closed }

abbrev pub verdict_of : Option Event → Verdict
verdict_of None = verdicts.Nothing
verdict_of (Some e) = verdicts.Event e

abbrev pub closes : ℕ → Verdict × Session
closes reason = (verdicts.Event (events.Close reason), closed)

abbrev pub logon_event : Logon → Event
logon_event l = events.Logon l.client l.host l.beat

-- the first message, where `next` is due after it
abbrev pub opens : ℕ → Option Logon → Verdict × Session
opens next None = closes close_reason.NO_LOGON
opens next (Some l) = (
  verdicts.Event (logon_event l),
  running (record { client = l.client; host = l.host; due = next; gap_asked = false }),
)

-- a number below the due one: a duplicate is dropped, anything else closes the session
abbrev pub step_below : Running → Bool → Verdict × Session
step_below r duplicate =
    if duplicate then (verdicts.Nothing, running r)
    else closes close_reason.MSG_SEQ_NUM_TOO_LOW

-- a number above the due one: the missing messages are asked for once
abbrev pub step_above : Running → Verdict × Session
step_above r =
    if r.gap_asked then (verdicts.Nothing, running r)
    else (verdicts.Event (events.Gap r.due), running (record r { gap_asked = true }))

-- the due number: a Logout closes the session, any other message is accepted
abbrev pub step_due : Running → Numbered → Verdict × Session
step_due r m =
    if is_logout m then closes close_reason.LOGOUT
    else (verdict_of (event_given m), running (record r { due = next_due m; gap_asked = false }))

-- a message after the Logon
abbrev pub step_running : Running → Numbered → Verdict × Session
step_running r m =
    if not (is_between m r.client r.host) then closes close_reason.COMP_ID
    else (if nat_lt m.number r.due then step_below r (repeats m)
    else (if nat_lt r.due m.number then step_above r
    else step_due r m))

abbrev pub step_at : State → Numbered → Verdict × Session
step_at states.Before m = opens (next_due m) (logon_in m)
step_at (states.Running r) m = step_running r m
step_at states.Closed m = (verdicts.Nothing, closed)

-- what a session says to a message, and the session after it
abbrev pub step : Session → Numbered → Verdict × Session
step s m = step_at s.state m

-- a message whose number can't be read is ignored
abbrev pub step_or_stay : Session → Option Numbered → Verdict × Session
step_or_stay s None = (verdicts.Nothing, s)
step_or_stay s (Some m) = step s m

-- what a session says to a frame, and the session after it
abbrev pub judge : Session → List ℕ → Verdict × Session
judge s frame = step_or_stay s (numbered frame)

abbrev pub end_at : Session → State → Verdict × Session
end_at s states.Before = closes close_reason.STREAM_ENDED
end_at s (states.Running r) = closes close_reason.STREAM_ENDED
end_at s states.Closed = (verdicts.Nothing, s)

-- what a session says where nothing more comes
abbrev pub ended : Session → Verdict × Session
ended s = end_at s s.state

abbrev pub is_closed_at : State → Bool
is_closed_at states.Before = false
is_closed_at (states.Running r) = false
is_closed_at states.Closed = true

abbrev pub is_closed : Session → Bool
is_closed s = is_closed_at s.state

-- ---- one frame after another

abbrev pub event_in : Verdict → Option Event
event_in verdicts.Nothing = None
event_in (verdicts.Event e) = Some e

-- it says a Close
abbrev pub is_closing : Verdict → Bool
is_closing verdicts.Nothing = false
is_closing (verdicts.Event e) = is_close e

-- what it says to frames
abbrev pub events_said : Session → List (List ℕ) → List Event
events_said s [] = []
events_said s (f ∷ fs) = cons_option (event_in (judge s f).0) (events_said (judge s f).1 fs)

-- the session after them
abbrev pub session_after : Session → List (List ℕ) → Session
session_after s [] = s
session_after s (f ∷ fs) = session_after (judge s f).1 fs

-- what it says where nothing more comes
abbrev pub events_at_end : Session → List Event
events_at_end s = cons_option (event_in (ended s).0) []
