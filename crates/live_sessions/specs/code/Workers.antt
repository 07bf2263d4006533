-- What a worker does with its stream.
-- Words of the code alone.
use Rattle.std.specs.Prelude.{◌≡◌, ℕ, ◌<◌, true, List, [], ◌++◌, Option, IfSome}
use mathlib.Core.List.{IsPrefix}
use Rattle.spread_rules.specs.declared.event.Event.{Event}
use Rattle.fix_session_judging.specs.Steps.{new_session}
use Rattle.fix_session_judging.specs.Streams.{whole}
use Rattle.fix_session_judging.specs.declared.ahead.Ahead.{Ahead}
use Rattle.gate_link_sessions.specs.Bursts.{HasJudged}
use Rattle.gate_link_sessions.specs.Gateways.{events_sent, pending_events, is_over, session_state, bytes_held, SameGateway}
use Rattle.gate_link_sessions.specs.declared.gateway.Gateway.{Gateway}

-- a gateway that has done nothing
abbrev pub IsUnused : {A : Type 0} → Gateway A → Type 0
IsUnused g = (events_sent g ≡ []) × (session_state g ≡ new_session) × (bytes_held g ≡ [])

-- it is still that gateway, which has sent a beginning of the stream's events, and all of them once it is closed
abbrev pub HasSent : {A : Type 0} → List ℕ → Gateway A → Gateway A → Type 0
HasSent stream before after =
    SameGateway before after × IsPrefix (events_sent after) (whole stream)
    × (is_over after ≡ true → events_sent after ≡ whole stream)

-- what was sent, and then what is owed where these bytes follow
abbrev pub sent_and_pending : {A : Type 0} → Gateway A → List ℕ → List Event
sent_and_pending g rest = events_sent g ++ pending_events g rest

-- the same gateway, with these bytes still to come, after and before
abbrev pub SameEvents : {A : Type 0} → Gateway A → List ℕ → Gateway A → List ℕ → Type 0
SameEvents a before b after =
    SameGateway a b × (sent_and_pending b after ≡ sent_and_pending a before)

-- messages were judged, and can be sent
abbrev pub IsReady : {A : Type 0} → ℕ → Gateway A → Ahead → Type 0
IsReady most g ahead = HasJudged most g ahead × (0 < ahead.messages)

-- none were, or they can be sent
abbrev pub AreReady : {A : Type 0} → ℕ → Gateway A → Option Ahead → Type 0
AreReady most g judged = IfSome judged (IsReady most g)
