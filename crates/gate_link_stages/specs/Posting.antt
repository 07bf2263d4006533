-- What is said of the two ends of a session's ring to its writer.
use Rattle.std.specs.Prelude.{◌≡◌, ℕ, ◌<◌, ◌*◌, Bool, true, false, min, List, [], ◌++◌, length, take}
use mathlib.Core.List.{IsPrefix}
use Rattle.rtrb.specs.Ring.{sent, known_free, producer_capacity, IsPair, SameProducer, SameConsumer}
use Rattle.gate_link_stages.specs.Pieces.{bytes_in}
use Rattle.gate_link_stages.specs.declared.post.TheConstants.{POSTED_BYTES, POST_BYTES, MAX_POSTED_PIECES}
use Rattle.gate_link_stages.specs.declared.post.Poster.{Poster}
use Rattle.gate_link_stages.specs.declared.post.Writer.{Writer}
use Rattle.gate_link_stages.specs.declared.post.Post.{Post}
use Rattle.gate_link_stages.specs.declared.post.Post.TheVariants.{Posted, Full, Ended}
use Rattle.gate_link_stages.specs.declared.post.Wrote.{Wrote}
use Rattle.gate_link_stages.specs.declared.post.Wrote.TheVariants.{Bytes, Empty, Ended as Over}

-- the bytes given so far, by its ring end's own list
abbrev pub posted : {A : Type 0} → Poster A → List ℕ
posted p = bytes_in (sent p.producer)

abbrev pub post_ended : {A : Type 0} → Poster A → Bool
post_ended p = p.ended

abbrev pub post_room : {A : Type 0} → Poster A → ℕ
post_room p = known_free p.producer

-- the bytes that it has
abbrev pub written : {A : Type 0} → Writer A → List ℕ
written w = w.bytes.items

abbrev pub write_ended : {A : Type 0} → Writer A → Bool
write_ended w = w.ended

abbrev pub SamePoster : {A : Type 0} → Poster A → Poster A → Type 0
SamePoster a b = SameProducer a.producer b.producer

abbrev pub SameWriter : {A : Type 0} → Writer A → Writer A → Type 0
SameWriter a b = SameConsumer a.consumer b.consumer

abbrev pub ArePostPair : {A : Type 0} → Poster A → Writer A → Type 0
ArePostPair p w = IsPair p.producer w.consumer

-- nothing was given
abbrev pub PostRests : {A : Type 0} → Poster A → Poster A → Type 0
PostRests a b = (posted b ≡ posted a) × (post_ended b ≡ post_ended a)

-- what `post` does, by its answer
abbrev pub Posts : {A : Type 0} → Post → List ℕ → Poster A → Poster A → Type 0
Posts (Posted n) bytes a b =
    (post_ended a ≡ false) × (n ≡ min (length bytes) POST_BYTES) × (posted b ≡ posted a ++ take n bytes) × (post_ended b ≡ false)
Posts Full bytes a b = (post_ended a ≡ false) × (0 < length bytes) × (post_room b ≡ 0) × PostRests a b
Posts Ended bytes a b = (post_ended a ≡ true) × (b ≡ a)

-- how many of these bytes are given at once: as many as so many pieces take, and the ring
abbrev pub given_at_once : {A : Type 0} → Poster A → List ℕ → ℕ
given_at_once p bytes =
    min (length bytes) (min MAX_POSTED_PIECES (producer_capacity p.producer) * POSTED_BYTES)

-- what `post_many` does, by its answer
abbrev pub PostsMany : {A : Type 0} → Post → List ℕ → Poster A → Poster A → Type 0
PostsMany (Posted n) bytes a b =
    (post_ended a ≡ false) × (n ≡ given_at_once a bytes) × (posted b ≡ posted a ++ take n bytes)
    × (post_ended b ≡ false)
PostsMany Full bytes a b =
    (post_ended a ≡ false) × (post_room b * POSTED_BYTES < given_at_once a bytes) × PostRests a b
PostsMany Ended bytes a b = (post_ended a ≡ true) × (b ≡ a)

-- what `end` does, by its answer
abbrev pub EndPosts : {A : Type 0} → Post → Poster A → Poster A → Type 0
EndPosts (Posted n) a b = (n ≡ 0) × (post_ended a ≡ false) × (posted b ≡ posted a) × (post_ended b ≡ true)
EndPosts Full a b = (post_ended a ≡ false) × (post_room b ≡ 0) × PostRests a b
EndPosts Ended a b = (post_ended a ≡ true) × (b ≡ a)

-- what `take` does, by its answer
abbrev pub Writes : {A : Type 0} → Wrote → Writer A → Writer A → Type 0
Writes (Bytes n) a b =
    (write_ended a ≡ false) × ((more : List ℕ) × (length more ≡ n) × (written b ≡ written a ++ more)) × (write_ended b ≡ false)
Writes Empty a b = (write_ended a ≡ false) × (written b ≡ written a) × (write_ended b ≡ false)
Writes Over a b = (written b ≡ written a) × (write_ended b ≡ true)

-- what both ends in one thread say
abbrev pub Finishes : Bool → Bool → List ℕ → List ℕ → Type 0
Finishes true ended gave wrote = (ended ≡ true) × (wrote ≡ gave)
Finishes false ended gave wrote = IsPrefix wrote gave

-- a poster and a writer that have done nothing
pub record IsFreshPost {A : Type 0} (ring : ℕ) (p : Poster A) (w : Writer A) : Type 0 where
  pub posted_none : posted p ≡ []
  pub not_ended : post_ended p ≡ false
  pub size : producer_capacity p.producer ≡ ring
  pub written_none : written w ≡ []
  pub not_over : write_ended w ≡ false
