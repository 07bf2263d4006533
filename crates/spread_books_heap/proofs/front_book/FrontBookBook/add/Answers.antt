use Rattle.std.proofs.Common.{List, sym, subst}
use Rattle.spread_rules.specs.declared.order.Order.{Order}
use Rattle.spread_books_heap.specs.code.FrontPrices.{HoldsPrices}
use Rattle.spread_books_heap.proofs.front_book.FrontBookBook.add.Goals as goal

pub invariant_of-self-2 : goal.invariant_of-self-2
invariant_of-self-2 g c =
    subst (λ (ys : List Order). HoldsPrices ys c.update_front.new.fronts) (sym c.in_ok-add.ensures.ok)
    (c.update_front.ensures c.self.inside.tables c.make_room.ensures)
