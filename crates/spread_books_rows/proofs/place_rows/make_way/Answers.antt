use Rattle.std.proofs.Common.{◌<◌, List, All, subst, sym}
use Rattle.spread_rules.specs.declared.order.Order.{Order}
use Rattle.spread_books_rows.proofs.places.RowsByPlace.{below_rows}
use Rattle.spread_books_rows.proofs.place_rows.make_way.Goals as goal

pub returns-clause-below : goal.returns-clause-below
returns-clause-below g c = below_rows c.tidy.new.rows.items c.args.place c.tidy.ensures.rest
    (subst (λ (xs : List Order). All (λ (o : Order). o.place < c.args.place) xs) (sym c.tidy.ensures.live)
    c.requires.below)
