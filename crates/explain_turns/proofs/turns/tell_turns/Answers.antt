use Rattle.std.proofs.Common.{sym, subst, ◌++◌, ◌∷◌, [], ◌-◌, List, None, All, arith}
use Rattle.std.proofs.lemmas.List.Elements.{All-push}
use Rattle.spread_rules.specs.declared.order.Order.{Order}
use Rattle.spread_rules.specs.code.Candidates.{HasOrderPrice}
use Rattle.spread_rules.specs.code.Clearing.{begin}
use Rattle.explain_turns.specs.declared.turn.ExplainedTurn.{ExplainedTurn}
use Rattle.explain_turns.specs.Explained.{HaveLegPrices, IsTurn}
use Rattle.explain_turns.specs.code.Turns.{IsAfter, IsNextTurn}
use Rattle.explain_turns.proofs.turns_told.TurnsTold.{members_all, one_more, told_all, told_none}
use Rattle.explain_turns.proofs.turns.tell_turns.Goals.{else-loop-orders-test, then-loop-orders-test+in_default}
use Rattle.explain_turns.proofs.turns.tell_turns.Goals as goal

pub loop-orders-preserved : goal.loop-orders-preserved
loop-orders-preserved g c =
    let rules = c.args.rules.now in
    let n = c.args.new.now in
    let xs = c.args.orders.now.items in
    let left = c.loop-orders.left in
    let orders = c.loop-orders.orders.items in
    let t = c.in-Some.turn in
    let is : IsTurn rules (begin left orders) t = subst (λ (ys : List Order). IsTurn rules (begin left ys) t)
    c.deref.ensures.value c.in-Some.ensures.turn in
    let more = one_more rules n xs left orders c.loop-orders.turns.items t c.loop-orders.invariant.after is in
    record {
      after =
          subst (λ (ts : List ExplainedTurn). IsAfter rules n xs c.after_turn-left.result
          c.after_turn-left.new.orders.items ts) (sym c.in_ok-push.ensures.items)
          (subst (λ (o : Order). IsAfter rules n xs o c.after_turn-left.new.orders.items
          (c.loop-orders.turns.items ++ t ∷ [])) (sym c.after_turn-left.ensures.left)
          (subst (λ (ys : List Order). IsAfter rules n xs (record left { leaves = left.leaves - t.quantity }) ys
          (c.loop-orders.turns.items ++ t ∷ [])) (sym c.after_turn-left.ensures.orders) more));
      orders = subst (All HasOrderPrice) (sym c.after_turn-left.ensures.orders)
          (members_all t.quantity orders t.taken.counterparty c.loop-orders.invariant.orders);
      small = subst (All HaveLegPrices) (sym c.in_ok-push.ensures.items)
          (All-push HaveLegPrices c.loop-orders.turns.items t c.loop-orders.invariant.small
          c.in-Some.ensures.leg_price);
    }

pub returns-clause-turns : goal.returns-clause-turns
returns-clause-turns g c =
    let rules = c.args.rules.now in
    let left = c.loop-orders.left in
    let a = c.loop-orders.invariant.after in
    elim c.loop-orders-test.branch [
      | else-loop-orders-test w ↦ told_all rules c.args.new.now c.args.orders.now.items left c.loop-orders.orders.items
          c.loop-orders.turns.items a (let h = w.loop-orders-test.false in let m = c.len-most.ensures in let l =
          c.len.ensures in omega arith)
      | then-loop-orders-test+in_default w ↦ told_none rules c.args.new.now c.args.orders.now.items left
          c.loop-orders.orders.items c.loop-orders.turns.items a
          (subst (λ (ys : List Order). IsNextTurn rules left ys None) w.deref.ensures.value
          (subst (IsNextTurn rules left w.deref.result.now) w.in_default.is w.next_turn.ensures.turn))
    ]
