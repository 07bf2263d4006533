use Rattle.std.proofs.Common.{subst}
use Rattle.spread_books_plain.specs.Queues.{IsFrontLevel}
use Rattle.spread_books_search.specs.BookView.{BookView}
use Rattle.spread_books.proofs.quoted_book.QuotedBookBook.front_level.Goals as goal

pub returns : goal.returns
returns g c = subst (λ (v : BookView). IsFrontLevel v.orders c.args.instrument c.args.side c.front_level.result)
    c.self.view_is c.front_level.ensures
