-- One more handle.
use Rattle.std.proofs.Common.{◌≡◌, ℕ, ◌<◌, List, [], ◌∷◌, ◌++◌, length, get_or, remove, refl, arith, sym, ap, ◌∙◌, inl, inr, Vec}
use Rattle.std.proofs.lemmas.List.{get_or_append_left, get_or_push, get_or_default}
use Rattle.std.specs.declared.thread.PromisedHandle.{PromisedHandle}
use Rattle.gate_link_sessions.specs.declared.gateway.Gateway.{Gateway}
use Rattle.gate_link_sessions.proofs.inboxes.OneMore.{snoc_cases}
use Rattle.live_sessions.specs.declared.worker.WorkerPromise.{WorkerPromise}
use Rattle.live_sessions.specs.code.Handing.{AreStarted}

-- the first element taken out
pub first_removed : {X : Type 0} (xs after : List X) (x : X) → 0 < length xs → x ≡ get_or xs 0 x → after ≡ remove xs 0
    → xs ≡ x ∷ after
first_removed [] after x some is rest = absurd (omega (arith, some))
first_removed (y ∷ ys) after x some is rest = rw (is, rest) refl

pub started_snoc : {A : Type 0} (streams : List (Vec ℕ A)) (gs : List (Gateway A))
    (hs : List (PromisedHandle (Gateway A) (WorkerPromise A))) (h : PromisedHandle (Gateway A) (WorkerPromise A))
    (gateway : Gateway A) (stream : Vec ℕ A) → length hs < length gs → length hs < length streams
    → AreStarted streams gs hs → gateway ≡ get_or gs (length hs) gateway → stream ≡ get_or streams (length hs) stream
    → h.promise.gateway.value ≡ gateway → h.promise.stream.value.items ≡ stream.items
    → AreStarted streams gs (hs ++ h ∷ [])
started_snoc streams gs hs h gateway stream in_gs in_streams started its_gateway its_stream is_gateway is_stream s v g d
    below =
    elim (snoc_cases hs h s below) [
      | inl early ↦ rw (get_or_append_left hs (h ∷ []) d s early) (started s v g d early)
      | inr last ↦
          rw (get_or_push hs h d s (sym last), last) (
            is_gateway ∙ (its_gateway ∙ get_or_default gs (length hs) gateway g in_gs),
            is_stream ∙ ap (λ (w : Vec ℕ _). w.items) (its_stream
                ∙ get_or_default streams (length hs) stream v in_streams),
          )
    ]
