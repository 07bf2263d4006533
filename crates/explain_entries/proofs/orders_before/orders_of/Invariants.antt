use Rattle.std.proofs.Common.{◌≡◌, take}
use Rattle.explain_entries.proofs.orders_before.orders_of.Given as goal

abbrev pub invariant-loop-k : goal.invariant-loop-k
invariant-loop-k g l = l.orders.items ≡ take l.k (g.B.Book.orders l.book)
