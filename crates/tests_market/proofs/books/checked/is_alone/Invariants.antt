use Rattle.std.proofs.Common.{◌≡◌, ◌<◌, ℕ, Some}
use Rattle.std.specs.Prelude.{slice_get}
use Rattle.spread_rules.specs.declared.order.Order.{Order}
use Rattle.tests_market.proofs.books.checked.is_alone.Given as goal

abbrev pub invariant-loop-m : goal.invariant-loop-m
invariant-loop-m g l = (o : Order) (k : ℕ) → k < l.m → slice_get (g.B.Book.orders l.book) k ≡ Some o → o.place ≡ l.place
    → k ≡ l.n
