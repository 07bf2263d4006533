use Rattle.std.proofs.Common.{List, [], subst, sym}
use Rattle.spread_rules.specs.declared.order.Order.{Order}
use Rattle.spread_rules_rulebook.specs.Rulebook.{implied}
use Rattle.spread_books_quotes.specs.code.QuoteTable.{QuotesView, IsQuoted}
use Rattle.spread_books_quotes.proofs.quotes.Tables.{empty_table}
use Rattle.spread_books.proofs.quoted_book.QuotedBook.new.Goals as goal

pub invariant_of-result : goal.invariant_of-result
invariant_of-result g c =
    let on = implied c.args.rules.now in
    let months = c.months-months.result in
    record {
      most = c.months-months.ensures.most;
      all_are_on = c.is_all_on.ensures.0;
      quoted = λ e.
          subst (λ (xs : List Order). IsQuoted on months xs c.in_ok-quotes.quotes) (sym c.new-2.ensures)
          (subst (λ (q : QuotesView). IsQuoted on months [] q) (sym c.in_ok-quotes.ensures) (empty_table on months));
    }
