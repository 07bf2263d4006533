use Rattle.std.proofs.Common.{List, sym, subst}
use Rattle.spread_rules.specs.declared.order.Order.{Order}
use Rattle.spread_books_heap.specs.code.Index.{IsIndex}
use Rattle.spread_books_heap.proofs.ranks.TablesThroughChanges.{index_amended}
use Rattle.spread_books_heap.proofs.heap_book.HeapBookBook.amend.Goals as goal

pub invariant_of-self : goal.invariant_of-self
invariant_of-self g c = subst (λ (xs : List Order). IsIndex xs c.self.inside.queues) (sym c.amend.ensures.book)
    (index_amended c.self.inside.orders c.self.inside.queues c.args.place c.args.id c.args.quantity c.self.invariant)
