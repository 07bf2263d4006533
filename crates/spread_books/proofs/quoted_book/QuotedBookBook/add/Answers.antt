use Rattle.std.proofs.Common.{◌≡◌, true, false, refl, sym, ◌∙◌}
use Rattle.spread_rules_rulebook.specs.Rulebook.{implied}
use Rattle.spread_books_quotes.specs.code.QuoteTable.{HasCome, IsListed}
use Rattle.spread_books_quotes.proofs.quotes.Tables.{come_table}
use Rattle.spread_books.proofs.quoted_book.QuotedBookBook.add.Goals.{then-self, else-self}
use Rattle.spread_books.proofs.quoted_book.QuotedBookBook.add.Goals as goal

pub invariant_of-self-then-self-2 : goal.invariant_of-self-then-self-2
invariant_of-self-then-self-2 g c =
    let xs = c.self.inside.book in
    let ys = c.add.new.self in
    let o = c.args.order in
    let come : HasCome xs ys o c.front_level-others.result =
    record { is = c.in_ok-add.ensures.ok; front = c.front_level-others.ensures } in
    let both : (c.self.inside.listed ≡ true) × IsListed c.self.inside.pairs.months o = elim c.if-self.branch [
      | then-self w ↦ (w.if-self.true, w.is_listed-self-inside.ensures (sym w.self-is ∙ c.if-self-2.true))
      | else-self w ↦ let no : false ≡ true = sym w.if-self.false ∙ (sym w.self-is ∙ c.if-self-2.true) in cc
    ] in
    record {
      most = c.self.invariant.most;
      all_are_on = c.self.invariant.all_are_on;
      quoted = λ e. come_table (implied c.self.inside.pairs.rules.now) c.self.inside.pairs.months xs ys o
          c.front_level-others.result c.self.inside.quotes c.renew_for.new.self (c.self.invariant.quoted both.0) both.1
          come (c.renew_for.ensures.came refl xs come);
    }
