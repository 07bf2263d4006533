-- Gateways that have done nothing.
use Rattle.std.specs.Prelude.{◌≡◌, ℕ, ◌<◌, List, [], length, slice_index_or}
use Rattle.fix_session_judging.specs.Steps.{new_session}
use Rattle.gate_link_sessions.specs.Gateways.{session_number, events_sent, free_slots, session_state, bytes_held}
use Rattle.gate_link_sessions.specs.declared.gateway.Gateway.{Gateway}

-- a gateway that has done nothing, over a ring with this much room
pub record IsFresh {A : Type 0} (ring s : ℕ) (g : Gateway A) : Type 0 where
  pub session : session_number g ≡ s
  pub sent : events_sent g ≡ []
  pub room : free_slots g ≡ ring
  pub state : session_state g ≡ new_session
  pub held : bytes_held g ≡ []

abbrev pub AreFresh : {A : Type 0} → ℕ → List (Gateway A) → Type 0
AreFresh ring gs = (s : ℕ) (g : Gateway _) → s < length gs → IsFresh ring s (slice_index_or gs s g)
