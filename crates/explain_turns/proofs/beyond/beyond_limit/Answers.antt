use Rattle.std.proofs.Common.{Some, ℤ, to_z, of_z, w64, ap, ◌∙◌, subst, arith}
use Rattle.spread_rules.specs.declared.order.Order.{Order}
use Rattle.spread_rules.specs.Candidates.{IsBest}
use Rattle.spread_rules_rulebook.specs.Rulebook.{implied}
use Rattle.explain_turns.specs.Explained.{ticks_between}
use Rattle.explain_turns.proofs.ranks.LeastOfAll.{least_of_all}
use Rattle.explain_turns.proofs.ranks.SmallPrices.{leg_price, order_price}
use Rattle.explain_turns.proofs.beyond.beyond_limit.Goals as goal

pub returns-in-Some-clause-beyond : goal.returns-in-Some-clause-beyond
returns-in-Some-clause-beyond c =
    let on = implied c.args.rules.now in
    let xs = c.args.orders.now in (
      omega arith,
      subst (λ (n : Order). IsBest on n xs (Some c.in-Some.candidate)) c.without_limit.ensures
          (least_of_all on c.without_limit.result xs (Some c.in-Some.candidate) c.in-Some.ensures.next),
      c.ticks_between.ensures
          ∙ ap (λ (p : ℤ). ticks_between c.args.rules.now p (to_z w64 (of_z w64 c.args.left.now.price)))
          (leg_price c.in-Some.candidate.price c.in-Some.ensures.leg_price)
          ∙ ap (λ (l : ℤ). ticks_between c.args.rules.now c.in-Some.candidate.price l)
          (order_price c.args.left.now.price c.requires.limit),
    )
