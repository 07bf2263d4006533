use Rattle.std.proofs.Common.{◌≡◌, true, false, sym, ap, subst, ◌∙◌}
use Rattle.spread_rules_ids.specs.declared.limits.TheConstants.{MAX_MONTHS}
use Rattle.spread_rules_rulebook.specs.Rulebook.{Rules, implied}
use Rattle.spread_books_plain.specs.Pairs.{IsCheapest}
use Rattle.spread_books_search.specs.BookView.{BookView}
use Rattle.spread_books.proofs.quotes.AtHand.{kept_by_newest}
use Rattle.spread_books.proofs.index.IndexBook.others_pair.Goals as goal

pub returns : goal.returns
returns g c =
    let xs = c.self.inside.others.orders in
    kept_by_newest (implied c.args.self.now.rules) xs c.args.self.now.orders c.self.inside.newest c.args.side
    c.args.month c.in_ok-held.held (ap (λ (v : BookView). v.orders) c.self.view_is)
    (λ k at. let no : false ≡ true = sym c.if-newest_has_part.false ∙ c.newest_has_part.ensures k at in cc)
    (subst (λ (r : Rules). IsCheapest (implied r) xs c.args.side c.args.month MAX_MONTHS c.in_ok-held.held)
    (ap (λ (v : BookView). v.rules) c.self.view_is) c.in_ok-held.ensures)
