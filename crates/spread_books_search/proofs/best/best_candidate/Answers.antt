use Rattle.std.proofs.Common.{◌≡◌, true, false, subst, sym, ap, ◌∙◌, Some}
use Rattle.std.proofs.lemmas.List.Elements.{All-contains}
use Rattle.spread_rules.specs.declared.order.Order.{Order}
use Rattle.spread_rules.specs.declared.order.Side.{Side}
use Rattle.spread_rules_rulebook.specs.declared.instrument.Instrument.{Instrument}
use Rattle.spread_rules_rulebook.specs.declared.instrument.Instrument.TheVariants.{Outright}
use Rattle.spread_rules.specs.declared.candidate.Counterparty.TheVariants.{Direct}
use Rattle.spread_rules.specs.code.Candidates.{implied_price, takes_part}
use Rattle.spread_rules.proofs.ranks.PairsSwitched.{priced, part_of}
use Rattle.spread_rules_rulebook.specs.Rulebook.{implied, month_count}
use Rattle.spread_books_search.specs.Listed.{IsInMonths}
use Rattle.spread_books_search.specs.code.Best.{CoversTwo}
use Rattle.spread_books_search.proofs.fronts.Suffice.{best_from, month_below, spread_pair}
use Rattle.spread_books_search.proofs.best.best_candidate.Goals as goal

pub returns-in-Outright-clause-best : goal.returns-in-Outright-clause-best
returns-in-Outright-clause-best g c =
    let xs = g.B.Book.orders c.args.book.now in
    let n = c.args.new.now in
    let on = implied c.args.rules.now in
    let months = month_count c.args.rules.now in
    best_from on n xs c.with_months.new.best c.with_months.ensures.fair
    (λ o price r e. c.with_months.ensures.keeps (record { price = price; counterparty = Direct o })
    (c.with_direct.ensures.covers on o price r e))
    (λ a b price e. c.with_months.ensures.covers a b price e
    (month_below on months b (All-contains (λ (o : Order). IsInMonths months o.instrument) xs b c.requires.months
    e.stands.1)))

pub returns-then-implied-clause-best : goal.returns-then-implied-clause-best
returns-then-implied-clause-best g c =
    let xs = g.B.Book.orders c.args.book.now in
    let n = c.args.new.now in
    let on = implied c.args.rules.now in
    let i = c.in-Spread.near in
    let j = c.in-Spread.far in
    let r = c.with_queues.new.best in
    let part : takes_part on n.instrument (Outright i) ≡ true =
    ap (λ (k : Instrument). takes_part on k (Outright i)) c.in-Spread.is
    ∙ (sym c.implied.ensures ∙ c.if-implied.true) in
    let offers = c.with_queues.ensures on part (c.with_direct.ensures.fair on) in
    let covers = subst (λ (side : Side). CoversTwo on n xs (Outright i) side (Outright j) n.side r) c.opposite.ensures
    offers.covers in
    best_from on n xs r offers.fair
    (λ o price s e. offers.keeps (record { price = price; counterparty = Direct o })
    (c.with_direct.ensures.covers on o price s e))
    (λ a b price e.
    let shape = spread_pair on i j n.side a.side a.instrument b.side b.instrument a.price b.price price
    (subst (λ (k : Instrument). implied_price n.side k a.side a.instrument b.side b.instrument a.price b.price ≡ Some
    price) c.in-Spread.is (priced on n a b price e.meets)) in
    covers a b price (record { stands = e.stands.0; instrument_is = shape.of; side_is = shape.sided })
    (record { stands = e.stands.1; instrument_is = shape.and; side_is = shape.and_on }) e)

pub returns-then-implied-clause-leg_price : goal.returns-then-implied-clause-leg_price
returns-then-implied-clause-leg_price g c =
    let n = c.args.new.now in
    let on = implied c.args.rules.now in
    let i = c.in-Spread.near in
    let part : takes_part on n.instrument (Outright i) ≡ true =
    ap (λ (k : Instrument). takes_part on k (Outright i)) c.in-Spread.is
    ∙ (sym c.implied.ensures ∙ c.if-implied.true) in
    (c.with_queues.ensures on part (c.with_direct.ensures.fair on)).small

pub returns-else-implied-clause-best : goal.returns-else-implied-clause-best
returns-else-implied-clause-best g c =
    let xs = g.B.Book.orders c.args.book.now in
    let n = c.args.new.now in
    let on = implied c.args.rules.now in
    best_from on n xs c.with_direct.new.best (c.with_direct.ensures.fair on)
    (c.with_direct.ensures.covers on)
    (λ a b price e.
    let here : on c.in-Spread.near c.in-Spread.far ≡ true =
    ap (λ (k : Instrument). takes_part on k a.instrument) (sym c.in-Spread.is) ∙ part_of on n a b price e.meets in
    absurd (let no : true ≡ false = sym here ∙ (sym c.implied.ensures ∙ c.if-implied.false) in cc))
