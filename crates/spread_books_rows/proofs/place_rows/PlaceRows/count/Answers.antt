use Rattle.std.proofs.Common.{List, subst, arith}
use Rattle.spread_rules.specs.declared.order.Order.{Order}
use Rattle.spread_books_rows.specs.Places.{Ascends}
use Rattle.spread_books_rows.proofs.places.RowsByPlace.{live_within, ascends_live}
use Rattle.spread_books_rows.proofs.place_rows.PlaceRows.count.Goals as goal

pub returns-clause-below_2_to_63 : goal.returns-clause-below_2_to_63
returns-clause-below_2_to_63 g c = let a = live_within c.self.inside.rows.items in let b = c.self.invariant.1 in let l =
    c.len.ensures in omega (arith, a, b, l, c.len.type_inv)

pub returns-clause-ordered : goal.returns-clause-ordered
returns-clause-ordered g c = subst (λ (ys : List Order). Ascends ys) c.self.view_is
    (ascends_live c.self.inside.rows.items c.self.invariant.0)
