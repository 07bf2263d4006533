use Rattle.std.proofs.Common.{◌≡◌, true, ◌∙◌, subst}
use Rattle.spread_rules.specs.declared.order.Side.{Side}
use Rattle.spread_rules_rulebook.specs.declared.instrument.Instrument.{Instrument}
use Rattle.spread_rules_rulebook.specs.declared.instrument.Instrument.TheVariants.{Outright}
use Rattle.spread_rules.specs.code.Candidates.{all_on, takes_part}
use Rattle.spread_rules_rulebook.specs.Rulebook.{implied}
use Rattle.spread_rules.specs.Legs.{other_side}
use Rattle.spread_books_plain.specs.Pairs.{spread_of, spread_side}
use Rattle.spread_books.specs.code.PairQuote.{IsQuoteOfFronts}
use Rattle.spread_books.proofs.quotes.Implied.{no_quote, outright_quote, quote_on}
use Rattle.spread_books_search.proofs.fronts.MonthPairs.{month_takes_part}
use Rattle.spread_books.proofs.index.IndexBook.quote_outright.Goals as goal

pub returns-in_default : goal.returns-in_default
returns-in_default g c = no_quote (implied c.args.self.now.rules) c.args.self.now.orders c.args.side c.args.month
    c.requires c.in_default.ensures

pub returns : goal.returns
returns g c =
    let xs = c.args.self.now.orders in
    let on = implied c.args.self.now.rules in
    let side = c.args.side in
    let m = c.args.month in
    let l = c.in-Some.pair in
    let q = c.spreads_with-spreads.result in
    let and = Outright l.other_month in
    let r = c.pair_quote.result in
    let fronts : IsQuoteOfFronts all_on xs (Outright m) side (spread_of m l.other_month)
    (spread_side side m l.other_month) and (other_side side) r =
    subst (λ (s : Side). IsQuoteOfFronts all_on xs (Outright m) side (spread_of m l.other_month)
    (spread_side side m l.other_month) and s r) c.opposite.ensures
    (subst (λ (s : Side). IsQuoteOfFronts all_on xs (Outright m) side (spread_of m l.other_month) s and
    c.opposite.result r) c.spreads_with-spreads.ensures.side
    (subst (λ (i : Instrument). IsQuoteOfFronts all_on xs (Outright m) side i q.side and c.opposite.result r)
    c.spreads_with-spreads.ensures.instrument c.pair_quote.ensures)) in
    let part : takes_part on (Outright m) (spread_of m l.other_month) ≡ true = month_takes_part on m l.other_month
    ∙ c.in-Some.ensures.fronts.is_on in
    outright_quote on xs side m l r c.requires c.in-Some.ensures
    (quote_on on xs (Outright m) side (spread_of m l.other_month) (spread_side side m l.other_month) and
    (other_side side) r part fronts)
