use Rattle.std.proofs.Common.{ℕ, List, All, refl, sym, ap, ◌∙◌, subst}
use Rattle.spread_rules.specs.declared.order.Order.{Order}
use Rattle.spread_rules.specs.code.Candidates.{HasOrderPrice}
use Rattle.spread_rules.specs.Clearing.{removed}
use Rattle.spread_books_rows.specs.Places.{HasPlace}
use Rattle.spread_books_heap.proofs.fronts.TableHoldsFronts.{rests_at, not_nobody}
use Rattle.spread_rules_rulebook.specs.Rulebook.{implied}
use Rattle.std.proofs.lemmas.List.Elements.{All-contains}
use Rattle.spread_books_search.specs.Listed.{IsInMonths}
use Rattle.spread_books_search.specs.BookView.{BookView}
use Rattle.spread_books_quotes.specs.code.QuoteTable.{HasLeft}
use Rattle.spread_books_quotes.proofs.quotes.Tables.{removed_all, left_table}
use Rattle.spread_books.proofs.quoted_book.QuotedBookBook.remove.Goals as goal

pub renew_for-requires : goal.renew_for-requires
renew_for-requires g c =
    let xs = c.self.inside.book in
    let months = c.self.inside.pairs.months in
    let quoted = c.self.invariant.quoted c.if-self.true in
    let at = rests_at xs c.args.place c.in-Some.order c.in-Some.ensures.was in
    record {
      order_price = subst (λ (ys : List Order). All HasOrderPrice ys) (sym c.in-Some.ensures.book)
          (removed_all HasOrderPrice xs c.args.place quoted.small);
      within = All-contains (λ (o : Order). IsInMonths months o.instrument) xs c.in-Some.order quoted.within at.0;
      most = c.self.invariant.most;
    }

pub invariant_of-self : goal.invariant_of-self
invariant_of-self g c =
    let xs = c.self.inside.book in
    let ys = c.remove_order.new.self in
    let o = c.in-Some.order in
    let at = rests_at xs c.args.place o c.in-Some.ensures.was in
    let left : HasLeft xs ys o c.front_level-others.result = record {
      is = c.in-Some.ensures.book ∙ ap (λ (p : ℕ). removed p xs) (sym at.1);
      ordered = c.in-Some.ensures.ordered;
      stood = at.0;
      front = c.front_level-others.ensures;
    } in
    record {
      most = c.self.invariant.most;
      all_are_on = c.self.invariant.all_are_on;
      quoted = λ e. left_table (implied c.self.inside.pairs.rules.now) c.self.inside.pairs.months xs ys o
          c.front_level-others.result c.self.inside.quotes c.renew_for.new.self (c.self.invariant.quoted e) left
          (c.renew_for.ensures.left refl xs left);
    }

pub invariant_of-self-in_default : goal.invariant_of-self-in_default
invariant_of-self-in_default g c =
    let xs = c.self.inside.book in
    let rests = subst (λ (ys : List Order). HasPlace ys c.args.place)
    (ap (λ (v : BookView). v.orders) (sym c.self.view_is)) c.requires in
    absurd (not_nobody xs c.args.place rests.order rests.stands rests.at c.in_default.ensures.was)
