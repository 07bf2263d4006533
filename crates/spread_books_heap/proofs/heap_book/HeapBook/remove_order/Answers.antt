use Rattle.std.proofs.Common.{◌≡◌, ◌==◌, ℕ, None, List, sym, ap, ◌∙◌, subst}
use Rattle.std.specs.List.{find}
use Rattle.spread_rules.specs.declared.order.Order.{Order}
use Rattle.spread_rules.specs.Clearing.{removed}
use Rattle.spread_books_queues.specs.QueueRanks.{queue_of}
use Rattle.spread_books_queues.specs.code.Heaps.{Settles}
use Rattle.spread_books_rows.proofs.places.Ascending.{at_place}
use Rattle.spread_books_rows.proofs.places.RowsByPlace.{missing}
use Rattle.spread_books_heap.specs.code.Index.{IsIndex}
use Rattle.spread_books_heap.proofs.ranks.TablesThroughChanges.{index_removed}
use Rattle.spread_books_heap.proofs.heap_book.HeapBook.remove_order.Goals as goal

pub invariant_of-self : goal.invariant_of-self
invariant_of-self g c =
    let xs = c.self.inside.orders in
    let o = c.in-Some.order in
    let f = at_place xs c.args.place o (sym c.remove.ensures.was ∙ c.in-Some.is) in
    let left : c.remove.new.self ≡ removed o.place xs = c.remove.ensures.book
    ∙ ap (λ (p : ℕ). removed p xs) (sym f.1) in
    let settled = subst (λ (n : ℕ). Settles c.remove.new.self n c.self.inside.queues c.settle.new.self)
    c.queue_number-queue.ensures.number c.settle.ensures in
    subst (λ (ys : List Order). IsIndex ys c.settle.new.self) (sym left)
    (index_removed xs c.self.inside.queues c.settle.new.self o c.self.invariant f.0
    (subst (λ (ys : List Order). Settles ys (queue_of o) c.self.inside.queues c.settle.new.self) left settled))

pub returns : goal.returns
returns g c = absurd (missing c.args.self.now c.args.place
    (subst (λ (xs : List Order). find (λ (o : Order). o.place == c.args.place) xs ≡ None) c.self.view_is
    (sym c.remove.ensures.was ∙ c.in_default.is)) c.requires)

pub invariant_of-self-in_default : goal.invariant_of-self-in_default
invariant_of-self-in_default g c = absurd (missing c.args.self.now c.args.place
    (subst (λ (xs : List Order). find (λ (o : Order). o.place == c.args.place) xs ≡ None) c.self.view_is
    (sym c.remove.ensures.was ∙ c.in_default.is)) c.requires)
