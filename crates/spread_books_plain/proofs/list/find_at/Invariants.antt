use Rattle.std.proofs.Common.{◌≡◌, ◌==◌, drop}
use Rattle.std.specs.List.{find}
use Rattle.spread_books_plain.proofs.list.find_at.Given as goal

abbrev pub invariant-loop-order : goal.invariant-loop-order
invariant-loop-order l =
    find (λ o. o.place == l.place) (drop l.order-index l.orders) ≡ find (λ o. o.place == l.place) l.orders
