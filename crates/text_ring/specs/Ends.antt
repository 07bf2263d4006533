-- What passed the two ends of a ring of blocks.
use Rattle.std.specs.Prelude.{◌≡◌, ℕ, true, List, []}
use Rattle.rtrb.specs.Ring.{sent, received, IsPair, SameProducer, SameConsumer}
use Rattle.gate_link_stages.specs.Marks.{ends}
use Rattle.text_ring.specs.Blocks.{is_mark, text_in}
use Rattle.text_ring.specs.declared.sink.BlockSink.{BlockSink}
use Rattle.text_ring.specs.declared.source.BlockSource.{BlockSource}

-- the text that was given on
abbrev pub text_given : {R A : Type 0} → BlockSink R A → List ℕ
text_given sink = text_in (sent sink.filled)

-- the text that was taken
abbrev pub text_taken : {A : Type 0} → BlockSource A → List ℕ
text_taken source = text_in (received source.filled)

-- the two ends of one ring
abbrev pub AreEnds : {R A : Type 0} → BlockSink R A → BlockSource A → Type 0
AreEnds sink source = IsPair sink.filled source.filled

-- the same end of the same ring
abbrev pub SameSink : {R A : Type 0} → BlockSink R A → BlockSink R A → Type 0
SameSink a b = SameProducer a.filled b.filled

abbrev pub SameSource : {A : Type 0} → BlockSource A → BlockSource A → Type 0
SameSource a b = SameConsumer a.filled b.filled

-- nothing was taken yet
abbrev pub IsUnread : {A : Type 0} → BlockSource A → Type 0
IsUnread source = received source.filled ≡ []

-- the mark was taken, behind all else that was
abbrev pub IsRead : {A : Type 0} → BlockSource A → Type 0
IsRead source = ends is_mark (received source.filled) true ≡ true
