use Rattle.std.proofs.Common.{rules}
use Rattle.std.specs.BinaryHeap.{heap_items}
use Rattle.std.proofs.lemmas.Fn.{filter_same}
use Rattle.spread_books_queues.proofs.ranks.RanksByQueue.{thinned}
use Rattle.spread_books_queues.proofs.queue_heaps.drop_all_departed.Goals as goal

pub returns-clause-thinned : goal.returns-clause-thinned
returns-clause-thinned g c =
    let kept = c.retain.ensures.filtered in
    thinned c.args.rows.now c.args.queue (heap_items c.args.heap.now) kept.0 (heap_items c.retain.new.self) c.requires
    (filter_same _ _ _ (λ x b f' k. search rules) _ _ kept.1) kept.2
