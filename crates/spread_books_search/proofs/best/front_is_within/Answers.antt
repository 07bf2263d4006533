use Rattle.std.proofs.Common.{Some, subst, sym, ap, ◌∙◌}
use Rattle.spread_books_plain.specs.Queues.{IsFrontLevel}
use Rattle.spread_books_search.proofs.fronts.Levels.{level_beyond, no_level_beyond}
use Rattle.spread_rules.specs.Candidates.{is_within_limit}
use Rattle.spread_rules_rulebook.proofs.rulebook_texts.OrderPrices.{order_is}
use Rattle.spread_books_search.proofs.fronts.MonthPairs.{level_small}
use Rattle.spread_books_search.proofs.best.front_is_within.Goals as goal

pub returns-in-None : goal.returns-in-None
returns-in-None g c =
    let xs = g.B.Book.orders c.args.book.now in
    let of = c.args.new.now.instrument in
    λ e. no_level_beyond c.args.new.now xs of c.args.side
    (subst (IsFrontLevel xs of c.args.side) c.in-None.is c.front_level.ensures)

pub returns-in-Some : goal.returns-in-Some
returns-in-Some g c =
    let xs = g.B.Book.orders c.args.book.now in
    let of = c.args.new.now.instrument in
    let l = c.in-Some.level in
    let is : IsFrontLevel xs of c.args.side (Some l) =
    subst (IsFrontLevel xs of c.args.side) c.in-Some.is c.front_level.ensures in
    let price = order_is l.price (level_small xs of c.args.side l c.requires is) in
    λ e. level_beyond c.args.new.now xs of c.args.side l is
    (ap (is_within_limit c.args.new.now.side c.args.new.now.price) (sym price) ∙ (sym c.is_within.ensures ∙ e))
