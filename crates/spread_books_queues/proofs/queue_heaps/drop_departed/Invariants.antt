use Rattle.std.proofs.Common.{◌≡◌, Contains}
use Rattle.std.specs.BinaryHeap.{heap_len}
use Rattle.spread_rules.specs.declared.order.Order.{Order}
use Rattle.spread_books_queues.specs.QueueRanks.{queue_of, rank_of}
use Rattle.spread_books_queues.specs.code.Heaps.{IsRankHeap, ranks_in}
use Rattle.spread_books_queues.proofs.queue_heaps.drop_departed.Given as goal

-- orders that rest keep their ranks
abbrev pub invariant-loop-top : goal.invariant-loop-top
invariant-loop-top g l =
    IsRankHeap l.heap
    × ((o : Order) → Contains l.rows o → queue_of o ≡ l.queue → Contains (ranks_in l.initial.heap) (rank_of o)
    → Contains (ranks_in l.heap) (rank_of o))

abbrev pub decreases-loop-top : goal.decreases-loop-top
decreases-loop-top g l = heap_len l.heap
