use Rattle.spread_books_heap.proofs.ranks.TablesThroughChanges.{index_reduced}
use Rattle.std.proofs.Common.{List, sym, subst}
use Rattle.spread_rules.specs.declared.order.Order.{Order}
use Rattle.spread_books_heap.specs.code.Index.{IsIndex}
use Rattle.spread_books_heap.proofs.heap_book.HeapBook.reduce_order.Goals as goal

pub invariant_of-self : goal.invariant_of-self
invariant_of-self g c = subst (λ (xs : List Order). IsIndex xs c.self.inside.queues) (sym c.reduce.ensures.book)
    (index_reduced c.self.inside.orders c.self.inside.queues c.args.place c.args.by c.self.invariant)
