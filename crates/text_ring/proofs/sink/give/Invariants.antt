use Rattle.std.proofs.Common.{◌≡◌}
use Rattle.rtrb.specs.Ring.{sent, SameProducer}
use Rattle.text_ring.proofs.sink.give.Given as goal

abbrev pub invariant-loop : goal.invariant-loop
invariant-loop g l = (l.block ≡ l.fn.block) × SameProducer l.fn.filled l.filled × (sent l.filled ≡ sent l.fn.filled)
