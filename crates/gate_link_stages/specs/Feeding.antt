-- What is said of the two ends of the ring to the thread that matches.
use Rattle.std.specs.Prelude.{◌≡◌, ◌≢◌, ℕ, ◌+◌, ◌-◌, ◌<◌, Bool, true, false, min, List, [], ◌∷◌, ◌++◌, length, take}
use mathlib.Core.List.{IsPrefix}
use Rattle.rtrb.specs.Ring.{sent, received, known_free, producer_capacity, IsPair, SameProducer, SameConsumer}
use Rattle.spread_rules.specs.declared.event.Entry.{Entry}
use Rattle.gate_link_stages.specs.Feeds.{entries, first_items}
use Rattle.gate_link_stages.specs.declared.feed.TheConstants.{MAX_SLICE_ITEMS}
use Rattle.gate_link_stages.specs.declared.feed.Fed.{Fed}
use Rattle.gate_link_stages.specs.declared.feed.Feeder.{Feeder}
use Rattle.gate_link_stages.specs.declared.feed.Matcher.{Matcher}
use Rattle.gate_link_stages.specs.declared.feed.Give.{Give}
use Rattle.gate_link_stages.specs.declared.feed.Give.TheVariants.{Gave, Full, Level, Ended}
use Rattle.gate_link_stages.specs.declared.feed.Taken.{Taken}
use Rattle.gate_link_stages.specs.declared.feed.Taken.TheVariants.{Entry as Got, Empty, Ended as Over}
use Rattle.gate_link_stages.specs.declared.feed.Lent.{Lent}
use Rattle.gate_link_stages.specs.declared.feed.Lent.TheVariants.{Entry as LentEntry, Empty as LentEmpty, Ended as LentEnd}

-- the entries given so far, by its ring end's own list
abbrev pub given : {A : Type 0} → Feeder A → List Entry
given f = entries (sent f.producer)

-- whether the end mark was pushed
abbrev pub feed_ended : {A : Type 0} → Feeder A → Bool
feed_ended f = f.ended

-- the room of its ring
abbrev pub feed_ring_size : {A : Type 0} → Feeder A → ℕ
feed_ring_size f = producer_capacity f.producer

-- how many slots it knows to be free
abbrev pub feed_room : {A : Type 0} → Feeder A → ℕ
feed_room f = known_free f.producer

-- the items handed out so far: those that its ring end's own list has, but for the ones that are held
abbrev pub handed : {A : Type 0} → Matcher A → List Fed
handed m = first_items (received m.consumer) (m.filled - m.next)

-- the entries taken so far
abbrev pub taken : {A : Type 0} → Matcher A → List Entry
taken m = entries (handed m)

-- whether the end mark was taken
abbrev pub take_ended : {A : Type 0} → Matcher A → Bool
take_ended m = m.ended

abbrev pub SameFeeder : {A : Type 0} → Feeder A → Feeder A → Type 0
SameFeeder a b = SameProducer a.producer b.producer

abbrev pub SameMatcher : {A : Type 0} → Matcher A → Matcher A → Type 0
SameMatcher a b = SameConsumer a.consumer b.consumer

-- the two ends of one ring
abbrev pub AreFeedPair : {A : Type 0} → Feeder A → Matcher A → Type 0
AreFeedPair f m = IsPair f.producer m.consumer

-- how many entries are given next
abbrev pub next_slice : {A : Type 0} → List Entry → Feeder A → ℕ
next_slice journal a = min (min (length journal - length (given a)) MAX_SLICE_ITEMS) (feed_ring_size a)

-- nothing was given
abbrev pub FeedRests : {A : Type 0} → Feeder A → Feeder A → Type 0
FeedRests a b = (given b ≡ given a) × (feed_ended b ≡ feed_ended a)

-- what `give` does, by its answer
abbrev pub Gives : {A : Type 0} → Give → List Entry → Feeder A → Feeder A → Type 0
Gives (Gave k) journal a b =
    (feed_ended a ≡ false) × (given a ≢ journal) × (k ≡ next_slice journal a)
    × (given b ≡ take (length (given a) + k) journal) × (feed_ended b ≡ false)
Gives Full journal a b = (feed_ended a ≡ false) × (given a ≢ journal) × (feed_room b < next_slice journal a) × FeedRests a b
Gives Level journal a b = (feed_ended a ≡ false) × (given a ≡ journal) × (b ≡ a)
Gives Ended journal a b = (feed_ended a ≡ true) × (b ≡ a)

-- what `end` does, by its answer
abbrev pub EndGives : {A : Type 0} → Give → Feeder A → Feeder A → Type 0
EndGives (Gave k) a b = (k ≡ 0) × (feed_ended a ≡ false) × (given b ≡ given a) × (feed_ended b ≡ true)
EndGives Full a b = (feed_ended a ≡ false) × (feed_room b ≡ 0) × FeedRests a b
EndGives Level a b = ⊥
EndGives Ended a b = (feed_ended a ≡ true) × (b ≡ a)

-- what `take` does, by its answer
abbrev pub Takes : {A : Type 0} → Taken → Matcher A → Matcher A → Type 0
Takes (Got e) a b = (take_ended a ≡ false) × (taken b ≡ taken a ++ e ∷ []) × (take_ended b ≡ false)
Takes Empty a b = (take_ended a ≡ false) × (taken b ≡ taken a) × (take_ended b ≡ false)
Takes Over a b = (taken b ≡ taken a) × (take_ended b ≡ true)

-- the answer of `take` that says the same as this answer of `lend`
abbrev pub taken_of : Lent → Taken
taken_of (LentEntry e) = Got e.now
taken_of LentEmpty = Empty
taken_of LentEnd = Over

-- what both ends in one thread say: the end mark was taken, and then what was taken is what was given; else it is a beginning
abbrev pub Agrees : Bool → Bool → List Entry → List Entry → Type 0
Agrees true ended gave took = (ended ≡ true) × (took ≡ gave)
Agrees false ended gave took = IsPrefix took gave

-- a feeder and a matcher that have done nothing
pub record IsFreshFeed {A : Type 0} (ring : ℕ) (f : Feeder A) (m : Matcher A) : Type 0 where
  pub given_none : given f ≡ []
  pub not_ended : feed_ended f ≡ false
  pub size : feed_ring_size f ≡ ring
  pub taken_none : taken m ≡ []
  pub not_over : take_ended m ≡ false
