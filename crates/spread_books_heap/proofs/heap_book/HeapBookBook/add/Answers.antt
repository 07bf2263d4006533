use Rattle.std.proofs.Common.{◌≡◌, ℕ, List, [], ◌∷◌, ◌++◌, ap, sym, ◌∙◌, subst}
use Rattle.spread_rules.specs.declared.order.Order.{Order}
use Rattle.spread_books_queues.specs.declared.queue_rank.QueueRank.{QueueRank}
use Rattle.spread_books_queues.specs.QueueRanks.{queue_of}
use Rattle.spread_books_queues.specs.code.Heaps.{Joins, Settles}
use Rattle.spread_books_heap.specs.code.Index.{IsIndex}
use Rattle.spread_books_heap.proofs.ranks.TablesThroughChanges.{index_same, index_thinned, index_added, index_restored, from_ok, from_err}
use Rattle.spread_books_heap.proofs.heap_book.HeapBookBook.add.Goals as goal

pub invariant_of-self : goal.invariant_of-self
invariant_of-self g c =
    let thin = index_thinned c.self.inside.orders c.queue_number-queue.result c.self.inside.queues c.thin.new.self
    c.self.invariant c.thin.ensures in
    index_same c.self.inside.orders c.thin.new.self c.add.new.self thin c.in_err-add.ensures.unchanged_on_err

pub invariant_of-self-then-is_err : goal.invariant_of-self-then-is_err
invariant_of-self-then-is_err g c =
    let thin = index_thinned c.self.inside.orders c.queue_number-queue.result c.self.inside.queues c.thin.new.self
    c.self.invariant c.thin.ensures in
    let same : c.push.new.self ≡ c.self.inside.orders =
    from_err c.push.result c.push.ensures.unchanged_on_err (sym c.is_err.ensures.value ∙ c.if-is_err.true) in
    subst (λ (ys : List Order). IsIndex ys c.settle.new.self) (sym same)
    (index_restored c.self.inside.orders c.queue_number-queue.result c.new.result c.thin.new.self c.add.new.self
    c.settle.new.self thin c.in_ok-add.ensures.ok (subst
    (λ (ys : List Order). Settles ys c.queue_number-queue.result c.add.new.self c.settle.new.self) same
    c.settle.ensures))

pub invariant_of-self-else-is_err : goal.invariant_of-self-else-is_err
invariant_of-self-else-is_err g c =
    let o = c.args.order in
    let xs = c.args.self.now in
    let thin = subst (λ (ys : List Order). IsIndex ys c.thin.new.self) c.self.view_is
    (index_thinned c.self.inside.orders c.queue_number-queue.result c.self.inside.queues c.thin.new.self
    c.self.invariant c.thin.ensures) in
    let joined = subst (λ (n : ℕ). Joins n c.new.result c.thin.new.self c.add.new.self)
    c.queue_number-queue.ensures.number c.in_ok-add.ensures.ok in
    let more : c.push.new.self ≡ c.self.inside.orders ++ o ∷ [] =
    from_ok c.push.result c.push.ensures.ok (sym c.is_err.ensures.value ∙ c.if-is_err.false) in
    subst (λ (ys : List Order). IsIndex ys c.add.new.self)
    (sym (more ∙ ap (λ (ys : List Order). ys ++ o ∷ []) c.self.view_is))
    (index_added xs c.thin.new.self c.add.new.self o thin c.requires c.queue_number-queue.ensures.months
    (subst (λ (r : QueueRank). Joins (queue_of o) r c.thin.new.self c.add.new.self) c.new.ensures joined))
