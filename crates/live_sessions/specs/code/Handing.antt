-- What the handles of started workers promise, and what the joined workers gave back.
-- Words of the code alone.
use Rattle.std.specs.Prelude.{◌≡◌, ℕ, ◌<◌, ◌≤◌, List, length, slice_index_or, Vec}
use Rattle.std.specs.declared.thread.PromisedHandle.{PromisedHandle}
use Rattle.gate_link_sessions.specs.declared.gateway.Gateway.{Gateway}
use Rattle.live_sessions.specs.declared.worker.WorkerPromise.{WorkerPromise}
use Rattle.live_sessions.specs.code.Workers.{HasSent}

-- handle s is of the thread that has gateway s and stream s
abbrev pub AreStarted : {A : Type 0} → List (Vec ℕ A) → List (Gateway A)
    → List (PromisedHandle (Gateway A) (WorkerPromise A)) → Type 0
AreStarted streams gateways handles =
    (s : ℕ) (v : Vec ℕ _) (g : Gateway _) (h : PromisedHandle (Gateway _) (WorkerPromise _))
    → s < length handles
    → ((slice_index_or handles s h).promise.gateway.value ≡ slice_index_or gateways s g)
    × ((slice_index_or handles s h).promise.stream.value.items ≡ (slice_index_or streams s v).items)

-- what each joined worker gave back keeps what its handle promised
abbrev pub AreKept : {A : Type 0} → List (PromisedHandle (Gateway A) (WorkerPromise A))
    → List (Gateway A) → Type 0
AreKept handles joined =
    (s : ℕ) (h : PromisedHandle (Gateway _) (WorkerPromise _)) (r : Gateway _) → s < length joined
    → HasSent (slice_index_or handles s h).promise.stream.value.items
    (slice_index_or handles s h).promise.gateway.value (slice_index_or joined s r)

-- what the workers have sent of their streams, one by one
abbrev pub AreSent : {A : Type 0} → List (Vec ℕ A) → List (Gateway A) → List (Gateway A) → Type 0
AreSent streams before after =
    (length after ≡ length before)
    × ((s : ℕ) (v : Vec ℕ _) (g h : Gateway _) → s < length before
    → HasSent (slice_index_or streams s v).items (slice_index_or before s g)
    (slice_index_or after s h))

-- an empty list with room for so many
abbrev pub IsRoom : ℕ → ℕ → ℕ → Type 0
IsRoom count len capacity = (len ≡ 0) × (count ≤ capacity)
