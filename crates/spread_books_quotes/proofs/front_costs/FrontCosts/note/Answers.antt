use Rattle.std.proofs.Common.{subst, sym, ◌∙◌}
use Rattle.spread_rules_rulebook.specs.declared.instrument.Instrument.{Instrument}
use Rattle.spread_rules_rulebook.specs.Rulebook.{implied}
use Rattle.spread_books_search.specs.Listed.{IsInMonths}
use Rattle.spread_books_search.specs.code.Cheapest.{CostsOfFront}
use Rattle.spread_books_quotes.specs.code.QuoteTable.{ChangesOneQueue}
use Rattle.spread_books_quotes.specs.code.FrontCosts.{AreFrontCosts, CostRows}
use Rattle.spread_books_quotes.proofs.quotes.CostRows.{outright_noted, spread_noted, spread_off}
use Rattle.spread_books_quotes.proofs.front_costs.FrontCosts.note.Goals as goal

pub returns-in-Outright : goal.returns-in-Outright
returns-in-Outright g c = λ xs one h.
    let ys = g.B.Book.orders c.args.book.now in
    let o = c.args.order.now in
    let on = implied c.args.pairs.now.rules.now in
    let months = c.args.pairs.now.months in
    let via = c.in-Outright.month in
    subst (λ (rows : CostRows). AreFrontCosts on months ys rows) (sym c.note_outright.ensures)
    (outright_noted on months c.requires.most xs ys c.args.self.now via o.side c.front_cost-cost.result
    (subst (IsInMonths months) c.in-Outright.is c.requires.within)
    (subst (λ (i : Instrument). ChangesOneQueue xs ys i o.side) c.in-Outright.is one) h
    (subst (λ (i : Instrument). CostsOfFront ys i o.side c.front_cost-cost.result) c.in-Outright.is
    c.front_cost-cost.ensures.cost))

pub returns-then-is_pair_on : goal.returns-then-is_pair_on
returns-then-is_pair_on g c = λ xs one h.
    let ys = g.B.Book.orders c.args.book.now in
    let o = c.args.order.now in
    let on = implied c.args.pairs.now.rules.now in
    let months = c.args.pairs.now.months in
    subst (λ (rows : CostRows). AreFrontCosts on months ys rows) (sym c.note_spread.ensures)
    (spread_noted on months c.requires.most xs ys c.args.self.now c.in-Spread.near c.in-Spread.far o.side
    c.front_cost-cost.result
    (subst (IsInMonths months) c.in-Spread.is c.requires.within)
    (subst (λ (i : Instrument). ChangesOneQueue xs ys i o.side) c.in-Spread.is one) h
    (sym c.is_pair_on.ensures ∙ c.if-is_pair_on.true)
    (subst (λ (i : Instrument). CostsOfFront ys i o.side c.front_cost-cost.result) c.in-Spread.is
    c.front_cost-cost.ensures.cost))

pub returns-else-is_pair_on : goal.returns-else-is_pair_on
returns-else-is_pair_on g c = λ xs one h.
    let ys = g.B.Book.orders c.args.book.now in
    let o = c.args.order.now in
    let on = implied c.args.pairs.now.rules.now in
    let months = c.args.pairs.now.months in
    spread_off on months c.requires.most xs ys c.args.self.now c.in-Spread.near c.in-Spread.far o.side
    c.front_cost-cost.result
    (subst (IsInMonths months) c.in-Spread.is c.requires.within)
    (subst (λ (i : Instrument). ChangesOneQueue xs ys i o.side) c.in-Spread.is one) h
    (sym c.is_pair_on.ensures ∙ c.if-is_pair_on.false)
