use Rattle.std.proofs.Common.{◌≡◌, ◌+ℤ◌, Some, None, subst, sym, ◌∙◌}
use Rattle.spread_rules.specs.declared.order.Side.{Side}
use Rattle.spread_rules_rulebook.specs.declared.instrument.Instrument.{Instrument}
use Rattle.spread_rules_rulebook.specs.declared.instrument.Instrument.TheVariants.{Outright}
use Rattle.spread_rules.specs.Legs.{other_side}
use Rattle.spread_rules_rulebook.specs.Rulebook.{implied}
use Rattle.spread_books_plain.specs.Pairs.{spread_of, spread_side, HasFronts}
use Rattle.spread_books_search.specs.code.Cheapest.{CostsOfFront}
use Rattle.spread_books_search.proofs.fronts.MonthPairs.{fronts_cost, leg_is, sum_passed}
use Rattle.spread_books_search.proofs.cheapest.pair_cost.Goals as goal

pub returns-in_default-clause-cost : goal.returns-in_default-clause-cost
returns-in_default-clause-cost g c =
    let xs = g.B.Book.orders c.args.book.now in
    let q = c.spreads_with-spreads.result in
    let of = spread_of c.args.month c.args.other_month in
    let none : CostsOfFront xs of (spread_side c.args.side c.args.month c.args.other_month) None =
    subst (λ (s : Side). CostsOfFront xs of s None) c.spreads_with-spreads.ensures.side
    (subst (λ (i : Instrument). CostsOfFront xs i q.side None) c.spreads_with-spreads.ensures.instrument
    (subst (CostsOfFront xs q.instrument q.side) c.in_default.is c.front_cost.ensures.cost)) in
    λ a b p. none a p.first

pub returns-in_default-front_cost-clause-cost : goal.returns-in_default-front_cost-clause-cost
returns-in_default-front_cost-clause-cost g c =
    let xs = g.B.Book.orders c.args.book.now in
    let of = Outright c.args.other_month in
    let none : CostsOfFront xs of (other_side c.args.side) None =
    subst (λ (s : Side). CostsOfFront xs of s None) c.opposite-opposite.ensures
    (subst (CostsOfFront xs of c.opposite-opposite.result) c.in_default-front_cost.is c.front_cost-2.ensures.cost)
    in
    λ a b p. none b p.second

pub returns-clause-cost : goal.returns-clause-cost
returns-clause-cost g c =
    let xs = g.B.Book.orders c.args.book.now in
    let q = c.spreads_with-spreads.result in
    let of = spread_of c.args.month c.args.other_month in
    let side = spread_side c.args.side c.args.month c.args.other_month in
    let and = Outright c.args.other_month in
    let x = c.in-Some.first in
    let y = c.in-Some-front_cost.second in
    let first : CostsOfFront xs of side (Some x) =
    subst (λ (s : Side). CostsOfFront xs of s (Some x)) c.spreads_with-spreads.ensures.side
    (subst (λ (i : Instrument). CostsOfFront xs i q.side (Some x)) c.spreads_with-spreads.ensures.instrument
    (subst (CostsOfFront xs q.instrument q.side) c.in-Some.is c.front_cost.ensures.cost)) in
    let second : CostsOfFront xs and (other_side c.args.side) (Some y) =
    subst (λ (s : Side). CostsOfFront xs and s (Some y)) c.opposite-opposite.ensures
    (subst (CostsOfFront xs and c.opposite-opposite.result) c.in-Some-front_cost.is c.front_cost-2.ensures.cost) in
    let sum : c.together.result ≡ x +ℤ y = sum_passed x y c.together.result c.in-Some.ensures.order_price
    c.in-Some-front_cost.ensures.order_price c.together.ensures.sum in
    subst (HasFronts (implied c.args.rules.now) xs c.args.side c.args.month c.args.other_month)
    (sym (leg_is c.together.result c.together.ensures.leg_price ∙ sum))
    (fronts_cost (implied c.args.rules.now) xs c.args.side c.args.month c.args.other_month x y
    (sym c.is_pair_on.ensures ∙ c.if-not-is_pair_on.false) first second)
