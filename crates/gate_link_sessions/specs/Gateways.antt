-- A gateway holds the bytes of one session and sends its events; and what each of its calls does.
use Rattle.std.specs.Prelude.{◌≡◌, ℕ, ◌+◌, ◌≤◌, Bool, true, false, List, [], ◌∷◌, ◌++◌, ◌⊎◌, Option, Some, None}
use Rattle.rtrb.specs.Ring.{sent, known_free, SameProducer}
use Rattle.spread_rules.specs.declared.event.Event.{Event}
use Rattle.spread_rules.specs.declared.codes.close_reason.TheConstants.{STREAM_ENDED}
use Rattle.spread_rules.specs.declared.event.Event.TheVariants.{Close}
use Rattle.fix_wire_frames.specs.Frames.{frames}
use Rattle.fix_wire_frames.specs.Held.{from_first_start, after_first_frame}
use Rattle.fix_wire_framer.specs.Pieces.{IsDrained}
use Rattle.fix_session_judging.specs.declared.session.Session.{Session}
use Rattle.fix_session_judging.specs.Steps.{judge, event_in, is_closed}
use Rattle.gate_link_sessions.specs.Owed.{events_left, Stands}
use Rattle.gate_link_sessions.specs.Rows.{entry_events}
use Rattle.gate_link_sessions.specs.declared.gateway.Gateway.{Gateway}
use Rattle.gate_link_sessions.specs.declared.gateway.Step.{Step}
use Rattle.gate_link_sessions.specs.declared.gateway.Step.TheVariants.{Sent, Skipped, Need, Full, Closed}

-- its session's number
abbrev pub session_number : {A : Type 0} → Gateway A → ℕ
session_number g = g.session

-- the events that it has sent, by its ring end's own list
abbrev pub events_sent : {A : Type 0} → Gateway A → List Event
events_sent g = entry_events (sent g.producer)

-- how many slots of its ring it knows to be free
abbrev pub free_slots : {A : Type 0} → Gateway A → ℕ
free_slots g = known_free g.producer

-- its judging state
abbrev pub session_state : {A : Type 0} → Gateway A → Session
session_state g = g.reader.session

-- the bytes that were put and not passed
abbrev pub bytes_held : {A : Type 0} → Gateway A → List ℕ
bytes_held g = g.reader.held

-- what it still has to send, if these bytes follow the held ones
abbrev pub pending_events : {A : Type 0} → Gateway A → List ℕ → List Event
pending_events g more = events_left g.reader.session g.reader.held more

-- its session is over
abbrev pub is_over : {A : Type 0} → Gateway A → Bool
is_over g = is_closed g.reader.session

-- the same gateway of the same ring
abbrev pub SameGateway : {A : Type 0} → Gateway A → Gateway A → Type 0
SameGateway a b = (b.session ≡ a.session) × SameProducer a.producer b.producer

-- the bytes at the front at which no frame stands or may begin are gone, and nothing else has changed
pub record OnlySkipped {A : Type 0} (a b : Gateway A) : Type 0 where
  pub sent : events_sent b ≡ events_sent a
  pub state : session_state b ≡ session_state a
  pub held : bytes_held b ≡ from_first_start (bytes_held a)
  pub pending : (more : List ℕ) → pending_events b more ≡ pending_events a more

-- the first message was judged and passed, and it says this
pub record Passes {A : Type 0} (says : Option Event) (a b : Gateway A) : Type 0 where
  pub message : List ℕ
  pub stands : Stands message (bytes_held a)
  pub says_so : event_in (judge (session_state a) message).0 ≡ says
  pub state : session_state b ≡ (judge (session_state a) message).1
  -- what follows the first frame
  pub held : bytes_held b ≡ after_first_frame (bytes_held a)

-- the first message was passed, and its event was sent
pub record Sends {A : Type 0} (a b : Gateway A) : Type 0 where
  pub event : Event
  pub open_before : is_over a ≡ false
  pub passes : Passes (Some event) a b
  pub sent : events_sent b ≡ events_sent a ++ event ∷ []
  pub room : free_slots a ≤ free_slots b + 1
  pub pending : (more : List ℕ) → event ∷ pending_events b more ≡ pending_events a more

-- the first message was passed, and has no event
pub record Skips {A : Type 0} (a b : Gateway A) : Type 0 where
  pub open_before : is_over a ≡ false
  pub passes : Passes None a b
  pub sent : events_sent b ≡ events_sent a
  pub room : free_slots b ≡ free_slots a
  pub pending : (more : List ℕ) → pending_events b more ≡ pending_events a more

-- no message stands
pub record Needs {A : Type 0} (a b : Gateway A) : Type 0 where
  pub open_before : is_over a ≡ false
  pub none : frames (bytes_held a) ≡ []
  pub skipped : OnlySkipped a b
  pub room : free_slots b ≡ free_slots a
  -- there is room for more bytes
  pub drained : IsDrained (bytes_held b)

-- the first message has an event, and the ring gave no room for it
pub record RingWasFull {A : Type 0} (a b : Gateway A) : Type 0 where
  pub open_before : is_over a ≡ false
  pub message : List ℕ
  pub event : Event
  pub stands : Stands message (bytes_held a)
  pub says_so : event_in (judge (session_state a) message).0 ≡ Some event
  pub skipped : OnlySkipped a b
  pub full : free_slots b ≡ 0

-- it was closed before, and nothing has changed
pub record WasClosed {A : Type 0} (a b : Gateway A) : Type 0 where
  pub closed_before : is_over a ≡ true
  pub same : b ≡ a

-- no message stood, and the close at the end of the stream was sent
pub record Closes {A : Type 0} (a b : Gateway A) : Type 0 where
  pub open_before : is_over a ≡ false
  pub none : frames (bytes_held a) ≡ []
  pub sent : events_sent b ≡ events_sent a ++ Close STREAM_ENDED ∷ []
  pub room : free_slots a ≤ free_slots b + 1
  pub closed_after : is_over b ≡ true
  pub held : bytes_held b ≡ from_first_start (bytes_held a)
  pub pending : Close STREAM_ENDED ∷ pending_events b [] ≡ pending_events a []

-- no message stood, and the ring gave no room for the close
pub record RingWasFullToClose {A : Type 0} (a b : Gateway A) : Type 0 where
  pub open_before : is_over a ≡ false
  pub none : frames (bytes_held a) ≡ []
  pub skipped : OnlySkipped a b
  pub full : free_slots b ≡ 0

-- what `step` does to a gateway, by its answer
abbrev pub Stepped : {A : Type 0} → Step → Gateway A → Gateway A → Type 0
Stepped Sent a b = Sends a b
Stepped Skipped a b = Skips a b
Stepped Need a b = Needs a b
Stepped Full a b = RingWasFull a b
Stepped Closed a b = WasClosed a b

-- what `end` does to a gateway, by its answer: what `step` does while a message stands, and else its close
abbrev pub Ended : {A : Type 0} → Step → Gateway A → Gateway A → Type 0
Ended Sent a b = Sends a b ⊎ Closes a b
Ended Skipped a b = Skips a b
Ended Need a b = ⊥
Ended Full a b = RingWasFull a b ⊎ RingWasFullToClose a b
Ended Closed a b = WasClosed a b
