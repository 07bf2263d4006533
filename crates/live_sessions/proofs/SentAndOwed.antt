-- What a worker hands back.
use Rattle.std.proofs.Common.{◌≡◌, ℕ, ◌+◌, ◌-◌, List, ◌++◌, length, take, drop, sym, ap, subst, ◌∙◌}
use Rattle.std.proofs.lemmas.List.{drop-drop, length-drop, take-append-drop}
use Rattle.std.proofs.Math.Seq.{take-length}
use Rattle.fix_session_judging.specs.Steps.{new_session}
use Rattle.spread_rules.specs.declared.event.Event.{Event}
use Rattle.fix_wire_frames.specs.Frames.{frames}
use Rattle.fix_session_judging.specs.declared.session.Session.{Session}
use Rattle.fix_session_judging.proofs.events.StateOfPlaces.{whole_law}
use Rattle.gate_link_sessions.specs.Owed.{events_left}
use Rattle.fix_session_judging.specs.Streams.{whole}
use Rattle.gate_link_sessions.specs.Gateways.{events_sent, pending_events, session_state, bytes_held, SameGateway}
use Rattle.gate_link_sessions.specs.declared.gateway.Gateway.{Gateway}
use Rattle.gate_link_sessions.proofs.gateways.SentAndOwed.{kept_of_put, sent_is_prefix, sent_is_whole}
use Rattle.live_sessions.specs.code.Workers.{HasSent, IsUnused, SameEvents, sent_and_pending}

pub sent_of : {A : Type 0} (stream : List ℕ) (a b : Gateway A) (rest : List ℕ) → SameGateway a b
    → sent_and_pending b rest ≡ whole stream → HasSent stream a b
sent_of stream a b rest same total = (
  same,
  sent_is_prefix b rest (whole stream) total,
  sent_is_whole b rest (whole stream) total,
)

-- what a gateway that has done nothing has left to say is all events of its stream
pub unused_owes : {A : Type 0} (stream : List ℕ) (g : Gateway A) → IsUnused g → sent_and_pending g stream ≡ whole stream
unused_owes stream g is =
    ap (λ (t : List Event). t ++ events_left (session_state g) (bytes_held g) stream) is.0
    ∙ (ap (λ (s : Session). events_left s (bytes_held g) stream) is.1
    ∙ (ap (λ (held : List ℕ). events_left new_session held stream) is.2 ∙ whole_law (frames stream)))

-- bytes that were put are no longer to come
pub fed : {A : Type 0} (a b : Gateway A) (stream : List ℕ) (put n : ℕ) → events_sent b ≡ events_sent a
    → ((more : List ℕ) → pending_events b more ≡ pending_events a
    (take n (take (length stream - put) (drop put stream)) ++ more))
    → sent_and_pending b (drop (put + n) stream) ≡ sent_and_pending a (drop put stream)
fed a b stream put n sent owed =
    let rest = drop put stream in
    let piece = take (length stream - put) rest in
    let later = drop (put + n) stream in
    let all : piece ≡ rest = ap (λ k. take k rest) (sym (length-drop put stream)) ∙ take-length rest in
    kept_of_put a b (take n piece) later sent (owed later)
    ∙ (ap (λ (t : List ℕ). events_sent a ++ pending_events a (take n t ++ later)) all
    ∙ (ap (λ (t : List ℕ). events_sent a ++ pending_events a (take n rest ++ t)) (sym (drop-drop n put stream))
    ∙ ap (λ (t : List ℕ). events_sent a ++ pending_events a t) (take-append-drop n rest)))

pub same_gateway_trans : {A : Type 0} (a b d : Gateway A) → SameGateway a b → SameGateway b d → SameGateway a d
same_gateway_trans a b d p q = (
  q.0 ∙ p.0,
  (
    (
      q.1.0.0 ∙ p.1.0.0,
      q.1.0.1 ∙ p.1.0.1,
      q.1.0.2 ∙ p.1.0.2,
      q.1.0.3
          ∙ p.1.0.3,
    ),
    q.1.1 ∙ p.1.1,
  ),
)

-- after a step on what is held, the same of a slice to the end as of what is left
pub stepped : {A : Type 0} (a b d e : Gateway A) (stream : List ℕ) (put : ℕ) (all : List Event) → SameGateway a b
    → sent_and_pending b (drop put stream) ≡ all
    → ((rest : List ℕ) → SameEvents b rest d rest)
    → SameEvents d (take (length stream - put) (drop put stream)) e (take (length stream - put) (drop put stream))
    → SameGateway a e × (sent_and_pending e (drop put stream) ≡ all)
stepped a b d e stream put all gate total seen step =
    let rest = drop put stream in
    let piece = take (length stream - put) rest in
    let tail : piece ≡ rest = ap (λ (k : ℕ). take k rest) (sym (length-drop put stream)) ∙ take-length rest in
    let before = seen rest in
    let now : SameEvents d rest e rest = subst (λ (t : List ℕ). SameEvents d t e t) tail step in
    (same_gateway_trans a d e (same_gateway_trans a b d gate before.0) now.0, now.1 ∙ (before.1 ∙ total))
