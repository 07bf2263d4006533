use Rattle.std.proofs.Common.{sym, subst, ◌∙◌}
use Rattle.spread_rules_rulebook.specs.Rulebook.{implied}
use Rattle.spread_books_quotes.specs.code.QuoteTable.{IsOneWay}
use Rattle.spread_books_quotes.specs.declared.quote_table.Change.{Change}
use Rattle.spread_books_quotes.proofs.quotes.Tables.{come_one, left_one, come_kept, left_kept, none_left, none_came, all_kept}
use Rattle.spread_books_quotes.proofs.quotes.CostRows.{kept_costs}
use Rattle.spread_books.proofs.kept_quotes.Quotes.renew_for.Goals as goal

pub returns-then-not-is_as_good-clause-came : goal.returns-then-not-is_as_good-clause-came
returns-then-not-is_as_good-clause-came g c = λ is xs come h.
    let ys = g.B.Book.orders c.args.book.now in
    let o = c.args.order.now in
    c.renew_front.ensures xs (subst (λ (w : Change). IsOneWay w xs ys) (sym is) (none_left xs ys o c.args.others come))
    (come_one xs ys o c.args.others come) h

pub returns-then-not-is_as_good-clause-left : goal.returns-then-not-is_as_good-clause-left
returns-then-not-is_as_good-clause-left g c = λ is xs left h.
    let ys = g.B.Book.orders c.args.book.now in
    let o = c.args.order.now in
    c.renew_front.ensures xs (subst (λ (w : Change). IsOneWay w xs ys) (sym is) (none_came xs ys o c.args.others left))
    (left_one xs ys o c.args.others left) h

pub returns-else-not-is_as_good-clause-came : goal.returns-else-not-is_as_good-clause-came
returns-else-not-is_as_good-clause-came g c = λ is xs come h.
    let ys = g.B.Book.orders c.args.book.now in
    let on = implied c.args.pairs.now.rules.now in
    let months = c.args.pairs.now.months in
    let keep = come_kept xs ys c.args.order.now c.args.others come
    (sym c.is_as_good.ensures ∙ c.if-not-is_as_good.false) in
    record {
      costs = kept_costs on months c.requires.most xs ys c.args.self.now.costs keep h.costs;
      cheapest =
          all_kept on months xs ys c.args.self.now.cells keep h.cheapest;
    }

pub returns-else-not-is_as_good-clause-left : goal.returns-else-not-is_as_good-clause-left
returns-else-not-is_as_good-clause-left g c = λ is xs left h.
    let ys = g.B.Book.orders c.args.book.now in
    let on = implied c.args.pairs.now.rules.now in
    let months = c.args.pairs.now.months in
    let keep = left_kept xs ys c.args.order.now c.args.others left
    (sym c.is_as_good.ensures ∙ c.if-not-is_as_good.false) in
    record {
      costs = kept_costs on months c.requires.most xs ys c.args.self.now.costs keep h.costs;
      cheapest =
          all_kept on months xs ys c.args.self.now.cells keep h.cheapest;
    }
