-- What was sent, and then what is owed, stays the same list.
use Rattle.std.proofs.Common.{◌≡◌, ℕ, Bool, true, false, refl, List, [], ◌∷◌, ◌++◌, sym, ap, ◌∙◌, inl, inr, append_assoc, append-nil}
use mathlib.Core.List.{IsPrefix}
use Rattle.spread_rules.specs.declared.event.Event.{Event}
use Rattle.spread_rules.specs.declared.event.Event.TheVariants as events
use Rattle.fix_wire_frames.specs.Frames.{frames}
use Rattle.gate_link_sessions.proofs.gateways.StillOwed.{owes_nothing}
use Rattle.gate_link_sessions.specs.Gateways.{events_sent, session_state, bytes_held, pending_events, is_over, OnlySkipped, Stepped, Ended}
use Rattle.gate_link_sessions.specs.Bursts.{first_events, SteppedMany}
use Rattle.gate_link_sessions.specs.declared.gateway.Burst.{Burst}
use Rattle.gate_link_sessions.specs.declared.gateway.Burst.TheVariants as burst
use Rattle.gate_link_sessions.specs.declared.gateway.Gateway.{Gateway}
use Rattle.gate_link_sessions.specs.declared.gateway.Step.{Step}
use Rattle.gate_link_sessions.specs.declared.gateway.Step.TheVariants.{Sent, Skipped, Need, Full, Closed}

-- one event goes from what is owed to what was sent
moved : (was now : List Event) (e : Event) (after before : List Event) → now ≡ was ++ e ∷ [] → e ∷ after ≡ before → now
    ++ after ≡ was ++ before
moved was now e after before sent owed =
    ap (λ (t : List Event). t ++ after) sent ∙ (append_assoc was (e ∷ []) after
    ∙ ap (λ (t : List Event). was ++ t) owed)

-- neither changes
alike : (was now after before : List Event) → now ≡ was → after ≡ before → now ++ after ≡ was ++ before
alike was now after before sent owed = ap (λ (t : List Event). t ++ after) sent ∙ ap (λ (t : List Event). was ++ t) owed

pub kept_of_rest : {A : Type 0} (a b : Gateway A) → OnlySkipped a b → (more : List ℕ) → events_sent b
    ++ pending_events b more ≡ events_sent a ++ pending_events a more
kept_of_rest a b s more = alike (events_sent a) (events_sent b) (pending_events b more) (pending_events a more) s.sent
    (s.pending more)

-- a look changes nothing of it, whether the gateway's session is open or over
pub kept_of_look : {A : Type 0} (a b : Gateway A) → (is_over a ≡ false → OnlySkipped a b) → (is_over a ≡ true → b ≡ a)
    → (more : List ℕ) → events_sent b ++ pending_events b more ≡ events_sent a ++ pending_events a more
kept_of_look a b skipped same more = by_test (is_over a) refl
  where
    by_test : (v : Bool) → is_over a ≡ v → events_sent b ++ pending_events b more ≡ events_sent a
        ++ pending_events a more
    by_test false opens = kept_of_rest a b (skipped opens) more
    by_test true shut = ap (λ (g : Gateway _). events_sent g ++ pending_events g more) (same shut)

pub kept_of_step : {A : Type 0} (r : Step) (a b : Gateway A) → Stepped r a b → (more : List ℕ) → events_sent b
    ++ pending_events b more ≡ events_sent a ++ pending_events a more
kept_of_step Sent a b s more = moved (events_sent a) (events_sent b) s.event (pending_events b more)
    (pending_events a more) s.sent (s.pending more)
kept_of_step Skipped a b s more = alike (events_sent a) (events_sent b) (pending_events b more) (pending_events a more)
    s.sent (s.pending more)
kept_of_step Need a b s more = kept_of_rest a b s.skipped more
kept_of_step Full a b s more = kept_of_rest a b s.skipped more
kept_of_step Closed a b s more = ap (λ (g : Gateway _). events_sent g ++ pending_events g more) s.same

-- several messages at once
pub kept_of_burst : {A : Type 0} (most : ℕ) (r : Burst) (a b : Gateway A) → SteppedMany most r a b → (more : List ℕ)
    → events_sent b ++ pending_events b more ≡ events_sent a ++ pending_events a more
kept_of_burst most (burst.Sent k) a b s more =
    ap (λ (t : List Event). t ++ pending_events b more) s.sent
    ∙ (append_assoc (events_sent a) (first_events most a) (pending_events b more)
    ∙ ap (λ (t : List Event). events_sent a ++ t) (s.pending more))
kept_of_burst most burst.Skipped a b s more = alike (events_sent a) (events_sent b) (pending_events b more)
    (pending_events a more) s.sent (s.pending more)
kept_of_burst most burst.Need a b s more = kept_of_rest a b s.skipped more
kept_of_burst most burst.Full a b s more = alike (events_sent a) (events_sent b) (pending_events b more)
    (pending_events a more) s.sent (s.pending more)
kept_of_burst most burst.Closed a b s more = ap (λ (g : Gateway _). events_sent g ++ pending_events g more) s.same

pub kept_of_end : {A : Type 0} (r : Step) (a b : Gateway A) → Ended r a b → events_sent b
    ++ pending_events b [] ≡ events_sent a ++ pending_events a []
kept_of_end Sent a b (inl s) = moved (events_sent a) (events_sent b) s.event (pending_events b []) (pending_events a [])
    s.sent (s.pending [])
kept_of_end Sent a b (inr s) = moved (events_sent a) (events_sent b) (events.Close 5) (pending_events b [])
    (pending_events a []) s.sent s.pending
kept_of_end Skipped a b s = alike (events_sent a) (events_sent b) (pending_events b []) (pending_events a []) s.sent
    (s.pending [])
kept_of_end Need a b s = absurd s
kept_of_end Full a b (inl s) = kept_of_rest a b s.skipped []
kept_of_end Full a b (inr s) = kept_of_rest a b s.skipped []
kept_of_end Closed a b s = ap (λ (g : Gateway _). events_sent g ++ pending_events g []) s.same

-- bytes that were put come before those that follow
pub kept_of_put : {A : Type 0} (a b : Gateway A) (taken rest : List ℕ) → events_sent b ≡ events_sent a
    → pending_events b rest ≡ pending_events a (taken ++ rest)
    → events_sent b ++ pending_events b rest ≡ events_sent a ++ pending_events a (taken ++ rest)
kept_of_put a b taken rest sent owed = alike (events_sent a) (events_sent b) (pending_events b rest)
    (pending_events a (taken ++ rest)) sent owed

-- what was sent is a beginning of it
pub sent_is_prefix : {A : Type 0} (g : Gateway A) (rest : List ℕ) (whole : List Event) → events_sent g
    ++ pending_events g rest ≡ whole → IsPrefix (events_sent g) whole
sent_is_prefix g rest whole total = (pending_events g rest, total)

-- and all of it, once the gateway is closed
pub sent_is_whole : {A : Type 0} (g : Gateway A) (rest : List ℕ) (whole : List Event) → events_sent g
    ++ pending_events g rest ≡ whole → is_over g ≡ true → events_sent g ≡ whole
sent_is_whole g rest whole total shut =
    sym (append-nil (events_sent g))
    ∙ (ap (λ (t : List Event). events_sent g ++ t) (sym
    (owes_nothing (session_state g) (frames (bytes_held g ++ rest)) shut)) ∙ total)
