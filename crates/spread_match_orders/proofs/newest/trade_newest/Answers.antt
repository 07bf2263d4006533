use Rattle.std.proofs.Common.{◌≡◌, ◌≤◌, List, All, ◌++◌, ◌∷◌, [], ◌<◌, sym, subst, ap, ◌∙◌}
use Rattle.spread_rules.specs.declared.order.Order.{Order}
use Rattle.spread_rules.specs.Clearing.{removed}
use Rattle.spread_rules_rulebook.specs.Rulebook.{references_of, implied}
use Rattle.spread_match_orders.specs.code.Entering.{orders_after_trading, trading_of}
use Rattle.spread_match_trading.specs.code.Turns.{IsNewest}
use Rattle.spread_match_orders.proofs.entries.NewOrder.{newest_after, removed_newest, settled_is, clear_most}
use Rattle.spread_match_orders.proofs.newest.trade_newest.Goals as goal

-- the others
rest_is : (n : Order) (xs : List Order) (w : IsNewest n xs) → removed n.place xs ≡ w.rest
rest_is n xs w = ap (removed n.place) w.ends ∙ removed_newest n w.rest w.below

below_is : (n : Order) (xs : List Order) → IsNewest n xs → All (λ o. o.place < n.place) (removed n.place xs)
below_is n xs w = subst (All (λ (o : Order). o.place < n.place)) (sym (rest_is n xs w)) w.below

pub trade-left-requires : goal.trade-left-requires
trade-left-requires g c κs within =
    let n = c.args.order.now in
    let xs = g.B.Book.orders c.args.book.now in
    let w = c.requires.newest in (
      within.0,
      (
        within.1,
        (
          w.ends ∙ ap (λ (ys : List Order). ys ++ n ∷ []) (sym (rest_is n xs w)),
          (c.requires.tradable, c.requires.room),
        ),
      ),
    )

pub rest_or_remove-requires-clause-newest : goal.rest_or_remove-requires-clause-newest
rest_or_remove-requires-clause-newest g c =
    let n = c.args.order.now in
    let xs = g.B.Book.orders c.args.book.now in
    newest_after (implied c.args.rules.now) (references_of c.args.rules.now) n (removed n.place xs)
    (g.B.Book.orders c.trade-left.new.book) (below_is n xs c.requires.newest) c.trade-left.ensures.orders

pub rest_or_remove-requires-clause-most : goal.rest_or_remove-requires-clause-most
rest_or_remove-requires-clause-most g c =
    let n = c.args.order.now in
    subst (λ (o : Order). o.leaves ≤ n.leaves) (sym c.trade-left.ensures.left)
    (clear_most (implied c.args.rules.now) (references_of c.args.rules.now) n
    (removed n.place (g.B.Book.orders c.args.book.now)))

pub returns-clause-orders : goal.returns-clause-orders
returns-clause-orders g c =
    let n = c.args.order.now in
    let xs = g.B.Book.orders c.args.book.now in
    let refs = references_of c.args.rules.now in
    let d = trading_of c.args.rules.now n xs in
    c.rest_or_remove.ensures.orders
    ∙ (ap (orders_after_trading c.args.immediate n c.trade-left.result.leaves) c.trade-left.ensures.orders
    ∙ (ap (λ (o : Order). orders_after_trading c.args.immediate n o.leaves (d.orders ++ n ∷ []))
    c.trade-left.ensures.left
    ∙ settled_is (implied c.args.rules.now) refs c.args.immediate n (removed n.place xs)
    (below_is n xs c.requires.newest)))
