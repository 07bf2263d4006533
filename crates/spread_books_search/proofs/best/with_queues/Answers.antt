use Rattle.std.proofs.Common.{None}
use Rattle.spread_books_search.proofs.fronts.BeatAnyPair.{covers_anyway}
use Rattle.spread_books_search.proofs.best.with_queues.Goals as goal

pub returns-else-fronts_meet : goal.returns-else-fronts_meet
returns-else-fronts_meet g c =
    let xs = g.B.Book.orders c.args.book.now in
    let covers = c.fronts_meet.ensures c.if-fronts_meet.false in
    λ on part fair. record {
      fair = fair;
      small = c.requires.best;
      keeps = λ q h. h;
      covers = λ a b price r s e. absurd (covers_anyway on c.args.new.now xs c.args.first.instrument c.args.first.side
          c.args.second.instrument c.args.second.side None covers a b price r s e);
    }
