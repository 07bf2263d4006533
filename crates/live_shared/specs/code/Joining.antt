-- What joined threads gave back.
-- Words of the code alone.
use Rattle.std.specs.Prelude.{ℕ, ◌<◌, List, length, slice_index_or}
use Rattle.std.specs.declared.thread.PromisedHandle.{PromisedHandle}
use Rattle.std.specs.declared.thread.Promise as Promise

-- each keeps what its handle promised
abbrev pub AreJoined : {T P : Type 0} → Promise.Ghosts P T → List (PromisedHandle T P) → List T → Type 0
AreJoined g handles joined =
    (s : ℕ) (h : PromisedHandle _ _) (r : _) → s < length joined
    → g.kept_by (slice_index_or handles s h).promise (slice_index_or joined s r)
