use Rattle.std.proofs.Common.{List, subst, sym, ap, ◌∙◌}
use Rattle.spread_rules.specs.declared.order.Order.{Order}
use Rattle.spread_rules.specs.Clearing.{clear}
use Rattle.spread_rules_rulebook.specs.Prices.{IsOrderPrice}
use Rattle.spread_rules_rulebook.specs.Rulebook.{implied, references_of}
use Rattle.explain_turns.specs.Explained.{IsBeyond}
use Rattle.explain_turns.proofs.turns_told.TurnsTold.{left_is, orders_are}
use Rattle.explain_turns.proofs.turns.explain_order.Goals as goal

pub beyond_limit-beyond-requires-clause-limit : goal.beyond_limit-beyond-requires-clause-limit
beyond_limit-beyond-requires-clause-limit g c = subst IsOrderPrice (sym c.in_ok-told.ensures.after.price)
    c.requires.limit

pub returns : goal.returns
returns g c =
    let rules = c.args.rules.now in
    let n = c.args.new.now in
    let xs = c.args.orders.items in
    let told = c.in_ok-told.told in
    let e = c.in_ok-told.ensures in
    let left = left_is rules n xs told.left c.tell_turns.new.orders.items told.turns.items e.after e.turns in
    let orders = orders_are rules n xs told.left c.tell_turns.new.orders.items told.turns.items e.after e.turns in
    record {
      turns = e.turns;
      leg_price = e.leg_price;
      left = ap (λ (o : Order). o.leaves) left;
      beyond =
          subst (λ (o : Order). IsBeyond rules o (clear (implied rules) (references_of rules) n xs).orders
          c.beyond_limit-beyond.result) left
          (subst (λ (ys : List Order). IsBeyond rules told.left ys c.beyond_limit-beyond.result)
          (c.deref.ensures.value ∙ orders) c.beyond_limit-beyond.ensures.beyond);
    }
