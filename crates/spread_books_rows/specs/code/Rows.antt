-- Rows of orders in order of place, some of which left.
-- Words of the code alone.
use Rattle.std.specs.Prelude.{cond, List, [], ◌∷◌}
use Rattle.spread_books_rows.specs.RisingRows.{RisesBy}
use Rattle.spread_rules.specs.declared.order.Order.{Order}
use Rattle.spread_books_rows.specs.declared.row.Row.{Row}

-- the orders that rest
abbrev pub live : List Row → List Order
live [] = []
live (r ∷ rs) = cond r.rests (r.order ∷ live rs) (live rs)

-- each row stands before those of later places
abbrev pub Rises : List Row → Type 0
Rises rs = RisesBy (λ r. r.order.place) rs
