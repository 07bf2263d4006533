use Rattle.std.proofs.Common.{◌≡◌, true, sym, ap, ◌∙◌, subst}
use Rattle.spread_rules.specs.declared.order.Side.{Side}
use Rattle.spread_rules_rulebook.specs.declared.instrument.Instrument.TheVariants.{Outright, Spread}
use Rattle.spread_rules.specs.code.Candidates.{all_on}
use Rattle.spread_rules.specs.Legs.{other_side}
use Rattle.spread_rules_rulebook.specs.Rulebook.{Rules, implied}
use Rattle.spread_books_search.specs.BookView.{BookView}
use Rattle.spread_books.specs.code.PairQuote.{IsQuoteOfFronts}
use Rattle.spread_books.proofs.quotes.Implied.{spread_quote, quote_on}
use Rattle.spread_books.proofs.index.IndexBook.quote_spread.Goals as goal

pub returns : goal.returns
returns g c =
    let on = implied c.args.self.now.rules in
    let xs = c.args.self.now.orders in
    let i = c.args.near in
    let j = c.args.far in
    let part : on i j ≡ true = ap (λ (r : Rules). implied r i j)
    (sym (c.rules.ensures ∙ ap (λ (v : BookView). v.rules) c.self.view_is))
    ∙ (sym c.implied.ensures ∙ c.if-not-implied.false) in
    spread_quote on xs i j c.args.side c.pair_quote.result
    (quote_on on xs (Spread i j) c.args.side (Outright i) (other_side c.args.side) (Outright j) c.args.side
    c.pair_quote.result part
    (subst (λ (s : Side). IsQuoteOfFronts all_on xs (Spread i j) c.args.side (Outright i) s (Outright j) c.args.side
    c.pair_quote.result) c.opposite.ensures c.pair_quote.ensures))
