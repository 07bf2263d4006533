use Rattle.std.proofs.Common.{◌≡◌, ℕ, List, [], Option, Some, None, refl, ap, sym, subst}
use Rattle.spread_rules.specs.declared.order.Order.{Order}
use Rattle.spread_books_queues.specs.declared.front_table.BestPrice.{BestPrice}
use Rattle.spread_books_queues.specs.code.Heaps.{ranks_at, IsLeast}
use Rattle.spread_books_heap.specs.code.FrontPrices.{IsBestPrice}
use Rattle.spread_books_heap.specs.code.Index.{IsIndex}
use Rattle.spread_books_heap.proofs.ranks.FrontOfAQueue.{no_rank, front_of_rank, rank_price}
use Rattle.spread_books_heap.proofs.heap_book.HeapBook.best_price.Goals as goal

pub returns-in_err-rank : goal.returns-in_err-rank
returns-in_err-rank g c =
    let xs = c.args.self.now in
    let ranks = c.self.inside.queues in
    let now = subst (λ (ys : List Order). IsIndex ys ranks) c.self.view_is c.self.invariant in
    let none = subst (λ (n : ℕ). ranks_at ranks n ≡ []) c.queue_number.ensures.number c.in_err-rank.ensures.none in
    subst (λ (r : Option BestPrice). IsBestPrice xs c.args.instrument c.args.side r) (sym c.from_residual.ensures)
    (None, no_rank xs ranks now c.args.instrument c.args.side none, refl)

pub returns : goal.returns
returns g c =
    let xs = c.args.self.now in
    let ranks = c.self.inside.queues in
    let now = subst (λ (ys : List Order). IsIndex ys ranks) c.self.view_is c.self.invariant in
    let k = c.in_ok-rank.rank in
    let least = subst (λ (n : ℕ). IsLeast (ranks_at ranks n) k) c.queue_number.ensures.number c.in_ok-rank.ensures.some
    in
    let front = front_of_rank xs ranks now c.args.instrument c.args.side c.queue_number.ensures.months k least in
    let o = front.0 in (
      Some o,
      front.2,
      ap (λ (b : BestPrice). Some b) (rank_price k o c.args.side c.best_price.result front.1
          front.2.0.side_is c.best_price.ensures.price c.best_price.ensures.place),
    )
