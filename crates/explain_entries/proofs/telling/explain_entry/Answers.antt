use Rattle.std.proofs.Common.{List, All, subst, sym, ap, ◌∙◌}
use Rattle.spread_rules.specs.declared.order.Order.{Order}
use Rattle.spread_rules.specs.code.Candidates.{HasOrderPrice}
use Rattle.explain_entries.specs.EntryExplained.{others_of}
use Rattle.explain_entries.proofs.Prices.{trades_priced}
use Rattle.explain_entries.proofs.telling.explain_entry.Goals as goal

pub explain_order-requires-clause-order_price : goal.explain_order-requires-clause-order_price
explain_order-requires-clause-order_price g c =
    let named = c.named_by-named.result in
    subst (λ (xs : List Order). All HasOrderPrice xs) (sym
    (c.others_of-others.ensures ∙ ap (λ (xs : List Order). others_of named xs) c.in_ok-orders.ensures.orders))
    (trades_priced c.args.rulebook.now c.args.before.now named c.ranges-2.ensures.orders c.months.ensures.lawful
    c.requires.before)
