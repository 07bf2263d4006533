use Rattle.std.proofs.Common.{subst}
use Rattle.spread_books_plain.specs.Queues.{IsFront}
use Rattle.spread_books_search.specs.BookView.{BookView}
use Rattle.spread_books.proofs.quoted_book.QuotedBookBook.front.Goals as goal

pub returns : goal.returns
returns g c = subst (λ (v : BookView). IsFront v.orders c.args.instrument c.args.side c.front.result) c.self.view_is
    c.front.ensures
