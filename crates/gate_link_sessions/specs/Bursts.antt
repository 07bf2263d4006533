-- Several messages are passed at once: their events are sent as one slice, all of them or none.
use Rattle.std.specs.Prelude.{◌≡◌, ℕ, ◌+◌, ◌≤◌, ◌<◌, false, List, [], ◌++◌, length, min, if◌then◌else◌}
use Rattle.spread_rules.specs.declared.event.Event.{Event}
use Rattle.fix_wire_frames.specs.Frames.{frames}
use Rattle.fix_wire_framer.specs.Pieces.{SplitsInto}
use Rattle.fix_session_judging.specs.Steps.{events_said, session_after}
use Rattle.fix_session_judging.specs.declared.ahead.Ahead.{Ahead}
use Rattle.fix_session_judging.specs.Ahead.{IsAhead, up_to_close, after_frames}
use Rattle.gate_link_sessions.specs.Gateways.{session_number, session_state, bytes_held, events_sent, free_slots, pending_events, is_over, Needs, WasClosed}
use Rattle.gate_link_sessions.specs.declared.gateway.Gateway.{Gateway}
use Rattle.gate_link_sessions.specs.declared.gateway.Burst.{Burst}
use Rattle.gate_link_sessions.specs.declared.gateway.Burst.TheVariants.{Sent, Skipped, Need, Full, Closed}

-- how many messages are held, at most so many; none once it is closed
abbrev pub held_messages : {A : Type 0} → ℕ → Gateway A → ℕ
held_messages most g = if is_over g then 0 else min most (length (frames (bytes_held g)))

-- the first messages that are held, at most so many, none past one that closes the session
abbrev pub first_messages : {A : Type 0} → ℕ → Gateway A → List (List ℕ)
first_messages most g = up_to_close most (session_state g) (frames (bytes_held g))

-- their events
abbrev pub first_events : {A : Type 0} → ℕ → Gateway A → List Event
first_events most g = events_said (session_state g) (first_messages most g)

-- The first messages that are held were judged, at most so many, and their events are kept: the gateway is still as it
-- was when they were.
pub record HasJudged {A : Type 0} (most : ℕ) (g : Gateway A) (ahead : Ahead) : Type 0 where
  pub fits : ahead.events ≤ length g.slice
  pub judged : IsAhead (session_number g) most g.reader g.slice ahead

-- these messages were judged and passed, at least one of them
pub record PassesMany {A : Type 0} (most : ℕ) (a b : Gateway A) : Type 0 where
  pub some : 0 < length (first_messages most a)
  pub state : session_state b ≡ session_after (session_state a) (first_messages most a)
  -- what follows their frames
  pub held : bytes_held b ≡ after_frames (length (first_messages most a)) (bytes_held a)
  pub left : SplitsInto (bytes_held a) (first_messages most a) (bytes_held b)

-- they were passed, and their events were sent
pub record SendsMany {A : Type 0} (most k : ℕ) (a b : Gateway A) : Type 0 where
  pub open_before : is_over a ≡ false
  pub passes : PassesMany most a b
  pub some : 0 < k
  pub count : k ≡ length (first_events most a)
  pub sent : events_sent b ≡ events_sent a ++ first_events most a
  pub room : free_slots a ≤ free_slots b + k
  pub pending : (more : List ℕ) →
      first_events most a ++ pending_events b more ≡ pending_events a more

-- they were passed, and have no event
pub record SkipsMany {A : Type 0} (most : ℕ) (a b : Gateway A) : Type 0 where
  pub open_before : is_over a ≡ false
  pub passes : PassesMany most a b
  pub none : first_events most a ≡ []
  pub sent : events_sent b ≡ events_sent a
  pub room : free_slots b ≡ free_slots a
  pub pending : (more : List ℕ) → pending_events b more ≡ pending_events a more

-- the ring gave no room for all their events, and nothing was passed or sent
pub record RingWasFullForAll {A : Type 0} (most : ℕ) (a b : Gateway A) : Type 0 where
  pub open_before : is_over a ≡ false
  pub full : free_slots b < length (first_events most a)
  pub sent : events_sent b ≡ events_sent a
  pub state : session_state b ≡ session_state a
  pub held : bytes_held b ≡ bytes_held a
  pub pending : (more : List ℕ) → pending_events b more ≡ pending_events a more

-- what `step_many` does to a gateway, by its answer
abbrev pub SteppedMany : {A : Type 0} → ℕ → Burst → Gateway A → Gateway A → Type 0
SteppedMany most (Sent k) a b = SendsMany most k a b
SteppedMany most Skipped a b = SkipsMany most a b
SteppedMany most Need a b = Needs a b
SteppedMany most Full a b = RingWasFullForAll most a b
SteppedMany most Closed a b = WasClosed a b
