use Rattle.std.proofs.Common.{◌≡◌, ℕ, Some, arith}
use Rattle.std.specs.Prelude.{slice_get}
use Rattle.tests_market.proofs.Walks.{below_next, within}
use Rattle.tests_market.proofs.books.checked.is_alone.Goals as goal

pub loop-m-preserved : goal.loop-m-preserved
loop-m-preserved g c = λ o k lt at same.
    below_next (λ (j : ℕ). slice_get (g.B.Book.orders c.args.book.now) j ≡ Some o → o.place ≡ c.args.place
    → j ≡ c.args.n) c.loop-m.m k
    (λ j l. c.loop-m.invariant o j l) (c.is_apart_at.ensures c.if-not-is_apart_at.false o) lt at same

pub returns : goal.returns
returns g c = λ t o k at same. c.loop-m.invariant o k
    (let w = within (g.B.Book.orders c.args.book.now) k o at in omega (arith, w)) at same
