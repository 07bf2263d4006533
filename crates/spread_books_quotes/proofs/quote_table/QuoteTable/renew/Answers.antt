use Rattle.std.proofs.Common.{◌≡◌, ℕ, ◌<◌, subst}
use Rattle.spread_rules.specs.declared.order.Side.{Side}
use Rattle.spread_rules_rulebook.specs.declared.instrument.Instrument.{Instrument}
use Rattle.spread_books_search.specs.code.Cheapest.{KeepsOthers}
use Rattle.spread_books_quotes.specs.code.QuoteTable.{known_pair, HasCheapest, ChangesOneQueue, KeepsOtherSide}
use Rattle.spread_books_quotes.proofs.quotes.Tables.{outright_renewed, spread_renewed}
use Rattle.spread_books_quotes.proofs.quote_table.QuoteTable.renew.Goals as goal

pub returns-in-Outright : goal.returns-in-Outright
returns-in-Outright g c = λ on xs ys told came one h.
    let old = c.args.self.now in
    let new = c.renew_months.new.self in
    let months = c.args.months in
    let j = c.in-Outright.via in
    outright_renewed on months xs ys old new j c.args.order.now.side
    (subst (λ (u : Side). KeepsOtherSide u old new) c.opposite-side.ensures c.renew_months.ensures.rest)
    (subst (λ (u : Side). (m : ℕ) → m < months → KeepsOthers xs ys u m j → HasCheapest on months xs old u m
    → HasCheapest on months ys new u m) c.opposite-side.ensures
    (λ m lt. c.renew_months.ensures.own m on xs ys told lt came))
    (subst (λ (i : Instrument). ChangesOneQueue xs ys i c.args.order.now.side) c.in-Outright.is one) h

pub returns-in-Spread : goal.returns-in-Spread
returns-in-Spread g c = λ on xs ys told came one h.
    let old = c.args.self.now in
    let mid = c.renew_cell.new.self in
    let new = c.renew_cell-in-Spread.new.self in
    let months = c.args.months in
    let near = c.in-Spread.near in
    let far = c.in-Spread.far in
    spread_renewed on months xs ys old mid new near far c.args.order.now.side
    (subst (λ (u : Side). (t : Side) (m : ℕ) → ((t ≡ u) × (m ≡ near) → ⊥) → known_pair mid t m ≡ known_pair old t m)
    c.opposite-side.ensures c.renew_cell.ensures.rest)
    (subst (λ (u : Side). near < months → KeepsOthers xs ys u near far → HasCheapest on months xs old u near
    → HasCheapest on months ys mid u near) c.opposite-side.ensures
    (λ lt. c.renew_cell.ensures.own on xs ys told lt came))
    c.renew_cell-in-Spread.ensures.rest
    (λ lt. c.renew_cell-in-Spread.ensures.own on xs ys told lt came)
    (subst (λ (i : Instrument). ChangesOneQueue xs ys i c.args.order.now.side) c.in-Spread.is one) h
