use Rattle.std.proofs.Common.{◌-◌, All, length}
use Rattle.spread_rules.specs.code.Candidates.{HasOrderPrice}
use Rattle.explain_turns.specs.Explained.{HaveLegPrices}
use Rattle.explain_turns.specs.code.Turns.{IsAfter}
use Rattle.explain_turns.proofs.turns.tell_turns.Given as goal

abbrev pub invariant-loop-orders : goal.invariant-loop-orders
invariant-loop-orders g l = record {
  after : IsAfter l.rules l.new l.fn.orders.items l.left l.orders.items l.turns.items;
  orders : All HasOrderPrice l.orders.items;
  small : All HaveLegPrices l.turns.items;
}

abbrev pub decreases-loop-orders : goal.decreases-loop-orders
decreases-loop-orders g l = l.most - length l.turns.items
