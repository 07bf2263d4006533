use Rattle.std.proofs.Common.{◌+◌, ◌-◌, All, length, map}
use Rattle.spread_books_queues.specs.code.Heaps.{IsRankHeap, ranks_in, SameRanks}
use Rattle.spread_books_queues.proofs.queue_heaps.make_room.Given as goal

abbrev pub invariant-loop-alloc : goal.invariant-loop-alloc
invariant-loop-alloc g l =
    All IsRankHeap l.heaps.items × SameRanks (map ranks_in l.initial.heaps.items) (map ranks_in l.heaps.items)

abbrev pub decreases-loop-alloc : goal.decreases-loop-alloc
decreases-loop-alloc g l = l.queue + 1 - length l.heaps.items
