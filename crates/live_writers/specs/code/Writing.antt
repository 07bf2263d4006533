-- What the handles of started writers promise, and what the joined ones gave back.
-- Words of the code alone.
use Rattle.std.specs.Prelude.{◌≡◌, ℕ, ◌<◌, List, length, slice_index_or}
use Rattle.std.specs.declared.thread.PromisedHandle.{PromisedHandle}
use Rattle.gate_link_sessions.specs.Rows.{row}
use Rattle.gate_link_stages.specs.declared.post.Poster.{Poster}
use Rattle.gate_link_stages.specs.declared.post.Writer.{Writer}
use Rattle.gate_link_stages.specs.Posting.{written, ArePostPair, SameWriter}
use Rattle.live_writers.specs.declared.writing.Written.{Written}
use Rattle.live_writers.specs.declared.writing.WritePromise.{WritePromise}

-- handle s is of the thread that has writer s
abbrev pub AreWriting : {A : Type 0} → List (Writer A)
    → List (PromisedHandle (Written A) (WritePromise A)) → Type 0
AreWriting writers handles =
    (s : ℕ) (w : Writer _) (h : PromisedHandle (Written _) (WritePromise _)) → s < length handles
    → (slice_index_or handles s h).promise.writer.value ≡ slice_index_or writers s w

-- what each joined thread gave back keeps what its handle promised
abbrev pub AreWritten : {A : Type 0} → List (PromisedHandle (Written A) (WritePromise A))
    → List (Written A) → Type 0
AreWritten handles joined =
    (s : ℕ) (h : PromisedHandle (Written _) (WritePromise _)) (r : Written _) → s < length joined
    → SameWriter (slice_index_or handles s h).promise.writer.value
    (slice_index_or joined s r).writer

-- the bytes that writer s has
abbrev pub bytes_written : {A : Type 0} → Written A → List ℕ
bytes_written w = written w.writer

abbrev pub written_at : {A : Type 0} → List (Written A) → ℕ → List ℕ
written_at ws s = row bytes_written ws s

-- the two ends of each session's ring
abbrev pub ArePostPairs : {A : Type 0} → List (Poster A) → List (Writer A) → Type 0
ArePostPairs ps ws =
    (length ps ≡ length ws)
    × ((s : ℕ) (p : Poster _) (w : Writer _) → s < length ws
    → ArePostPair (slice_index_or ps s p) (slice_index_or ws s w))

-- the same, in one thread again
abbrev pub AreJoinedPairs : {A : Type 0} → List (Poster A) → List (Written A) → Type 0
AreJoinedPairs ps ws =
    (length ps ≡ length ws)
    × ((s : ℕ) (p : Poster _) (w : Written _) → s < length ws
    → ArePostPair (slice_index_or ps s p) (slice_index_or ws s w).writer)
