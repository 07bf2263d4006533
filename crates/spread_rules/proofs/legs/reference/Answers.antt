use Rattle.std.proofs.Common.{subst, sym}
use Rattle.spread_rules_rulebook.specs.Prices.{IsOrderPrice}
use Rattle.spread_rules_rulebook.proofs.rulebook_texts.OrderPrices.{small_reference, order_is}
use Rattle.spread_rules.proofs.legs.reference.Goals as goal

pub returns-then-month-months-clause-order_price : goal.returns-then-month-months-clause-order_price
returns-then-month-months-clause-order_price c =
    let small = subst IsOrderPrice (sym c.reference.ensures)
    (small_reference c.args.rules.now c.args.month c.months.ensures.lawful) in
    subst IsOrderPrice (sym (order_is c.reference.result small)) small
