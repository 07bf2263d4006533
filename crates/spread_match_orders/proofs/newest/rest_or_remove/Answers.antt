use Rattle.std.proofs.Common.{◌≡◌, ℕ, ◌-◌, ◌<◌, ◌≤◌, ◌==◌, Bool, true, false, List, arith, inl, inr, ◌⊎◌, ◌∙◌}
use Rattle.std.proofs.lemmas.Bool.Decides.{nat_tests}
use Rattle.spread_rules.specs.declared.order.Order.{Order}
use Rattle.spread_rules.specs.Clearing.{reduced, removed}
use Rattle.spread_match_orders.specs.code.Entering.{orders_after_trading}
use Rattle.spread_match_orders.proofs.newest.rest_or_remove.Goals as goal

module _ (immediate : Bool) (own : Order) (left : ℕ) (xs : List Order) where
  -- nothing is left, or what is left may not rest
  gone : (left ≡ 0) ⊎ ((left ≡ 0 → ⊥) × (immediate ≡ true))
      → removed own.place xs ≡ orders_after_trading immediate own left xs
  gone (inl none) = let k : (left == 0) ≡ true = grind (arith, nat_tests) in rw k
  gone (inr ends) = let k : (left == 0) ≡ false = grind (arith, nat_tests, ends.0) in rw (k, ends.1)

  module _ (some : left ≡ 0 → ⊥) (stays : immediate ≡ false) where
    rests_less : left < own.leaves → reduced own.place (own.leaves - left) xs ≡ orders_after_trading immediate own left
        xs
    rests_less less = let k : (left == 0) ≡ false = grind (arith, nat_tests, some) in
        let l : (left == own.leaves) ≡ false = grind (arith, nat_tests) in rw (k, stays, l)

    rests_whole : left ≤ own.leaves → own.leaves ≤ left → xs ≡ orders_after_trading immediate own left xs
    rests_whole most least = let k : (left == 0) ≡ false = grind (arith, nat_tests, some) in
        let l : (left == own.leaves) ≡ true = grind (arith, nat_tests) in rw (k, stays, l)

pub returns-then-immediate-clause-orders : goal.returns-then-immediate-clause-orders
returns-then-immediate-clause-orders g c =
    c.remove.ensures.gone ∙ gone c.args.immediate c.args.own.now c.args.left
    (g.B.Book.orders c.args.book.now) c.if-immediate.either

pub returns-then-left-own-clause-orders : goal.returns-then-left-own-clause-orders
returns-then-left-own-clause-orders g c =
    c.reduce.ensures.less ∙ rests_less c.args.immediate c.args.own.now c.args.left (g.B.Book.orders c.args.book.now)
    c.if-immediate.false.0 c.if-immediate.false.1 c.if-left-own.true

pub returns-else-left-own-clause-orders : goal.returns-else-left-own-clause-orders
returns-else-left-own-clause-orders g c =
    rests_whole c.args.immediate c.args.own.now c.args.left (g.B.Book.orders c.args.book.now) c.if-immediate.false.0
    c.if-immediate.false.1 c.requires.most c.if-left-own.false
