use Rattle.std.proofs.Common.{◌≡◌, List, [], Option, sym, subst, arith}
use Rattle.spread_rules.specs.declared.order.Order.{Order}
use Rattle.spread_books_queues.specs.declared.front_table.BestPrice.{BestPrice}
use Rattle.spread_books_heap.specs.code.FrontPrices.{HoldsPrices}
use Rattle.spread_books_heap.proofs.fronts.TableHoldsFronts.{empty_slots, is_nil}
use Rattle.spread_books_heap.proofs.ranks.TablesThroughChanges.{from_both}
use Rattle.spread_books_heap.proofs.front_book.make_room.Goals as goal

pub returns-then-is_empty : goal.returns-then-is_empty
returns-then-is_empty g c =
    let none : c.args.tables.now ≡ [] = is_nil c.args.tables.now (omega arith) in
    from_both c.make_room.result c.make_room.ensures.ok c.make_room.ensures.unchanged_on_err
    (λ made. subst (λ (xs : List Order). HoldsPrices xs c.make_room.new.self) (sym none)
    (subst (λ (t : List (Option BestPrice)). HoldsPrices [] t) (sym made) (empty_slots 1200)))
    (λ kept. subst (λ (t : List (Option BestPrice)). HoldsPrices c.args.tables.now t) (sym kept) c.requires)
