use Rattle.std.proofs.Common.{◌≡◌, ◌<◌, ◌∙◌, List, get_or, length, sym, ap, subst}
use Rattle.std.proofs.lemmas.List.Elements.{All-contains}
use Rattle.spread_books_queues.specs.declared.queue_rank.QueueRank.{QueueRank}
use Rattle.spread_books_queues.specs.code.Heaps.{IsRankHeap, ranks_at, IsLeast}
use Rattle.spread_books_queues.proofs.ranks.RanksByQueue.{least_of_heap}
use Rattle.spread_books_queues.proofs.queue_heaps.QueueHeaps.least.Goals as goal

pub returns-clause-some : goal.returns-clause-some
returns-clause-some g c =
    let heaps = c.self.inside.heaps.items in
    let heap = c.in_ok-heap.heap.now in
    let seen = c.in_ok-heap.ensures.lookup in
    let within : c.args.queue < length heaps = subst (λ hs. c.args.queue < length hs) c.deref.ensures.value seen.3.0 in
    let at : heap ≡ get_or heaps c.args.queue heap = seen.1
    ∙ ap (λ hs. get_or hs c.args.queue heap) c.deref.ensures.value in
    let ordered : IsRankHeap heap = All-contains IsRankHeap heaps heap c.self.invariant (c.args.queue, within, sym at)
    in
    let least = least_of_heap heaps c.args.queue heap within at c.in_ok-top.top ordered c.in_ok-top.ensures.lookup
    c.in_ok-top.ensures.item.3.0 c.in_ok-top.ensures.greatest in
    subst (λ (q : List (List QueueRank)). IsLeast (ranks_at q c.args.queue) c.in_ok-top.top.now.0) c.self.view_is least
