use Rattle.spread_books_heap.proofs.ranks.TablesThroughChanges.{empty_index}
use Rattle.spread_books_heap.proofs.heap_book.HeapBook.new.Goals as goal

pub invariant_of-result : goal.invariant_of-result
invariant_of-result g c = empty_index c.new.result c.new-2.result c.new.ensures c.new-2.ensures
