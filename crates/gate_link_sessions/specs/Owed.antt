-- What a session still has to say.
use Rattle.std.specs.Prelude.{◌≡◌, ℕ, List, ◌++◌, Some}
use Rattle.spread_rules.specs.declared.event.Event.{Event}
use Rattle.fix_wire_frames.specs.Frames.{frames}
use Rattle.fix_wire_frames.specs.Held.{first_frame}
use Rattle.fix_session_judging.specs.declared.session.Session.{Session}
use Rattle.fix_session_judging.specs.Steps.{events_said, session_after, events_at_end}

-- what a session says to these messages, and then where its stream ends
abbrev pub whole_from : Session → List (List ℕ) → List Event
whole_from s fs = events_said s fs ++ events_at_end (session_after s fs)

-- what it has left to say: what it says to the messages of the held bytes followed by these, and then where its stream ends
abbrev pub events_left : Session → List ℕ → List ℕ → List Event
events_left s held more = whole_from s (frames (held ++ more))

-- this message stands first among the held bytes
abbrev pub Stands : List ℕ → List ℕ → Type 0
Stands message held = first_frame (frames held) ≡ Some message
