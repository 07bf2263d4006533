use Rattle.std.proofs.Common.{List, refl, sym, subst}
use Rattle.spread_rules.specs.declared.order.Order.{Order}
use Rattle.spread_books_rows.proofs.places.ChangedAt.{less}
use Rattle.spread_rules_rulebook.specs.Rulebook.{implied}
use Rattle.spread_books_quotes.specs.code.QuoteTable.{KeepsQuotes}
use Rattle.spread_books_quotes.proofs.quotes.Tables.{changed_table}
use Rattle.spread_books.proofs.quoted_book.QuotedBookBook.reduce.Goals as goal

pub invariant_of-self : goal.invariant_of-self
invariant_of-self g c =
    subst (λ (ys : List Order). KeepsQuotes c.self.inside.all_on c.self.inside.listed
    (implied c.self.inside.pairs.rules.now) c.self.inside.pairs.months ys c.self.inside.quotes)
    (sym c.reduce.ensures.less)
    (changed_table (less c.args.by) (record {
      instrument = λ o. refl;
      side = λ o. refl;
      price = λ o. refl;
      place =
          λ o. refl;
    }) c.args.place c.self.inside.all_on c.self.inside.listed (implied c.self.inside.pairs.rules.now)
    c.self.inside.pairs.months c.self.inside.book c.self.inside.quotes c.self.invariant)
