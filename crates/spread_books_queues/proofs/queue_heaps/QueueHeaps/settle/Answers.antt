use Rattle.std.proofs.Common.{◌<◌, List, length, map, set, subst, arith}
use Rattle.spread_books_queues.specs.declared.queue_rank.QueueRank.{QueueRank}
use Rattle.spread_books_queues.specs.code.Heaps.{ranks_in, HasSettled, Settles}
use Rattle.spread_books_queues.proofs.ranks.RanksByQueue.{heap_changes}
use Rattle.spread_books_queues.proofs.queue_heaps.QueueHeaps.settle.Goals as goal

pub returns-then-n-len : goal.returns-then-n-len
returns-then-n-len g c =
    let heaps = c.self.inside.heaps.items in
    let own = c.drop_departed.new.heap in
    let within : c.args.queue < length heaps = let ok = c.self.inside.heaps.ok in let len = c.len.ensures in let test =
    c.if-n-len.true in omega (arith, ok, len, test) in
    subst (λ (q : List (List QueueRank)). Settles c.args.rows.now c.args.queue q
    (map ranks_in (set heaps c.args.queue own))) c.self.view_is
    (heap_changes heaps c.args.queue c.index_mut.result.now within c.index_mut.ensures.value own
    (HasSettled c.args.rows.now c.args.queue) c.drop_departed.ensures.settled)
