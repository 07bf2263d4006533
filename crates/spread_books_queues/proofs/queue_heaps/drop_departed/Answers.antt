use Rattle.std.proofs.Common.{◌∙◌, sym}
use Rattle.std.specs.BinaryHeap.{heap_items}
use Rattle.spread_books_queues.specs.QueueRanks.{rank_of}
use Rattle.spread_books_queues.proofs.ranks.RanksByQueue.{top_greatest, led, gone, ranked_by_test, of_nobody}
use Rattle.spread_books_queues.proofs.queue_heaps.drop_departed.Goals as goal

pub returns-then-rests-clause-settled : goal.returns-then-rests-clause-settled
returns-then-rests-clause-settled g c =
    let items = heap_items c.loop-top.heap in
    let top = c.in-Some.top in
    record {
      kept = c.loop-top.invariant.1;
      led = led c.args.rows.now c.args.queue top items (top_greatest c.peek.result top items
          (sym c.copied.ensures ∙ c.in-Some.is) c.peek.ensures.greatest c.loop-top.invariant.0)
          (ranked_by_test c.args.rows.now c.args.queue top.0 (sym c.rests.ensures.value ∙ c.if-rests.true));
    }

pub loop-top-preserved : goal.loop-top-preserved
loop-top-preserved g c =
    let items = heap_items c.loop-top.heap in
    let top = c.in-Some.top in
    let less = gone items (heap_items c.pop.new.self) c.peek.result top c.pop.result
    (sym c.copied.ensures ∙ c.in-Some.is) c.peek.ensures.lookup c.pop.ensures.top c.pop.ensures.permutation
    c.pop.ensures.heap_order (λ some. c.pop.ensures.variant.1 (c.peek.ensures.variant.0 some))
    c.loop-top.invariant.0 in (
      less.0,
      λ o stands own had. less.1 (rank_of o) (c.loop-top.invariant.1 o stands own had)
          (λ same. of_nobody c.args.rows.now c.args.queue top.0 c.rests.ensures.ordered
          (sym c.rests.ensures.value ∙ c.if-rests.false) o stands own (sym same)),
    )
