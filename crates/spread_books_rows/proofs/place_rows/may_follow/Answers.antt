use Rattle.spread_books_rows.proofs.places.RowsByPlace.{all_below_last}
use Rattle.spread_books_rows.proofs.place_rows.may_follow.Goals as goal

pub returns-in-Some : goal.returns-in-Some
returns-in-Some c = λ t. all_below_last c.args.rows.now c.in-Some.last.now c.args.place c.requires
    c.in-Some.ensures.value t
