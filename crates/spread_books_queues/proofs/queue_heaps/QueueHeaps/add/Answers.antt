use Rattle.std.proofs.Common.{◌∙◌, List, map, set, Result, Ok, Err, OnErr, subst}
use Rattle.spread_books_queues.specs.declared.queue_rank.QueueRank.{QueueRank}
use Rattle.spread_books_queues.specs.code.Heaps.{ranks_in, SameRanks}
use Rattle.spread_books_queues.proofs.ranks.RanksByQueue.{heap_joins, heap_same, joins_from}
use Rattle.spread_books_queues.proofs.queue_heaps.QueueHeaps.add.Goals as goal

said_anyhow : {X E P : Type 0} (r : Result X E) → P → OnErr r P
said_anyhow (Ok x) p = tt
said_anyhow (Err e) p = p

pub returns-in_err-make_room-clause-unchanged_on_err : goal.returns-in_err-make_room-clause-unchanged_on_err
returns-in_err-make_room-clause-unchanged_on_err g c =
    said_anyhow c.from_residual.result (subst (λ (q : List (List QueueRank)). SameRanks q
    (map ranks_in c.make_room.new.heaps.items)) c.self.view_is c.make_room.ensures.same)

pub returns-in_err-push-clause-unchanged_on_err : goal.returns-in_err-push-clause-unchanged_on_err
returns-in_err-push-clause-unchanged_on_err g c =
    let heaps = c.make_room.new.heaps.items in
    let own = c.push.new.self in
    let before = subst (λ (q : List (List QueueRank)). SameRanks q (map ranks_in heaps)) c.self.view_is
    c.make_room.ensures.same in
    let same = heap_same heaps c.args.queue c.index_mut.result.now c.in_ok-make_room.ensures.room
    c.index_mut.ensures.value own c.in_err-push.ensures.unchanged.0 in
    said_anyhow c.from_residual-in_err-push.result (λ n. same n ∙ before n)

pub returns-clause-ok : goal.returns-clause-ok
returns-clause-ok g c =
    let heaps = c.make_room.new.heaps.items in
    let own = c.push.new.self in
    let before = subst (λ (q : List (List QueueRank)). SameRanks q (map ranks_in heaps)) c.self.view_is
    c.make_room.ensures.same in
    joins_from c.args.self.now (map ranks_in heaps) (map ranks_in (set heaps c.args.queue own)) c.args.queue c.args.rank
    before
    (heap_joins heaps c.args.queue c.index_mut.result.now c.in_ok-make_room.ensures.room c.index_mut.ensures.value own _
    c.in_ok-push.ensures.permutation)
