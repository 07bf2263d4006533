use Rattle.std.proofs.Common.{sym, subst}
use Rattle.spread_rules_rulebook.specs.Rulebook.{implied}
use Rattle.spread_books_quotes.specs.code.QuoteTable.{AreQuotes}
use Rattle.spread_books.proofs.kept_quotes.Quotes.renew_front.Goals as goal

pub returns : goal.returns
returns g c = λ xs way one h.
    let ys = g.B.Book.orders c.args.book.now in
    let on = implied c.args.pairs.now.rules.now in
    let was = subst (AreQuotes on c.args.pairs.now.months xs) (sym c.self.view_is) h in
    let costs = c.note.ensures xs one was.costs in
    record { costs = costs; cheapest = c.renew.ensures on xs ys costs way one was.cheapest }
