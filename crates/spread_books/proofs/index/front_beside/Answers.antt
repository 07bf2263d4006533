use Rattle.spread_books_plain.proofs.fronts.Changes.{front_of_queue}
use Rattle.spread_books.proofs.index.front_beside.Goals as goal

pub returns : goal.returns
returns g c =
    front_of_queue c.args.others.now.orders c.args.newest.now c.front_with.result c.args.instrument c.args.side
    c.front-front.result c.requires c.front-front.ensures c.front_with.ensures
