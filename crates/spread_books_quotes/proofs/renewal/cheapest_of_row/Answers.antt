use Rattle.std.proofs.Common.{◌≡◌, pos, ◌+◌, ◌<◌, ℤ, ◌+ℤ◌, ◌≤ℤ◌, List, true, false, length, get_or, arith, subst, sym, ap, ◌∙◌, to_z, w64}
use Rattle.std.specs.Prelude.{int_lt}
use Rattle.spread_rules.specs.declared.order.Order.{Order}
use Rattle.spread_rules.specs.Candidates.{Pairs}
use Rattle.spread_books_plain.specs.Pairs.{IsCheapest}
use Rattle.spread_books_quotes.specs.declared.front_costs.TheConstants.{NO_PAIR}
use Rattle.spread_books_quotes.specs.code.FrontCosts.{AreFrontCosts}
use Rattle.spread_books_quotes.proofs.quotes.Cells.{told_there, small_there, sum_fits, sum_is, least_pair, least_more, lesser_then, lesser_else, near_then, row_ended}
use Rattle.spread_books_quotes.proofs.renewal.cheapest_of_row.Goals as goal
use Rattle.spread_books_quotes.proofs.renewal.cheapest_of_row.Goals.{After-loop-other_month, then-cost-least, else-cost-least}

pub overflow_add-cost : goal.overflow_add-cost
overflow_add-cost g c =
    let k = c.loop-other_month.other_month in
    let xs = c.spread_row-spreads.result.now in
    let ys = c.outright_row-outrights.result.now in
    let end = c.min-other_month-end.ensures in
    let under = c.loop-other_month-test.true in
    sum_fits (get_or xs k (pos 0)) (get_or ys k (pos 0))
    (small_there xs k (pos 0) (omega (arith, end, under)) c.spread_row-spreads.ensures.order_price)
    (small_there ys k (pos 0) (omega (arith, end, under)) c.outright_row-outrights.ensures.order_price)

pub loop-other_month-preserved : goal.loop-other_month-preserved
loop-other_month-preserved g c =
    let k = c.loop-other_month.other_month in
    let xs = c.spread_row-spreads.result.now in
    let ys = c.outright_row-outrights.result.now in
    let a = get_or xs k (pos 0) in
    let b = get_or ys k (pos 0) in
    let least = to_z w64 c.loop-other_month.least-bits in
    let at = c.loop-other_month.month_of_least in
    let new = to_z w64 c.if-cost-least.least-bits in
    let now = c.if-cost-least.month_of_least in
    let end = c.min-other_month-end.ensures in
    let under = c.loop-other_month-test.true in
    let most = c.spread_row-spreads.ensures.most in
    let in_spreads : k < length xs = omega (arith, end, under) in
    let in_outrights : k < length ys = omega (arith, end, under) in
    let in_months : k < c.args.months = omega (arith, in_spreads, most) in
    let first_small = small_there xs k (pos 0) in_spreads c.spread_row-spreads.ensures.order_price in
    let second_small = small_there ys k (pos 0) in_outrights c.outright_row-outrights.ensures.order_price in
    let sum = sum_is a b first_small second_small in
    let more = λ (on : Pairs) (zs : List Order) (told : AreFrontCosts on c.args.months zs c.args.costs.now)
    (lt : c.args.month < c.args.months).
    least_more on zs c.args.side c.args.month k c.args.months c.args.costs.now a b least at told lt in_months
    (told_there xs k (pos 0) in_spreads ∙ c.spread_row-spreads.ensures.costs k in_months)
    (told_there ys k (pos 0) in_outrights ∙ c.outright_row-outrights.ensures.costs k in_months)
    first_small second_small c.loop-other_month.invariant.near (c.loop-other_month.invariant.cheapest on zs told lt) in
    elim c.if-cost-least.branch [
      | then-cost-least w ↦
          let less : int_lt (a +ℤ b) least ≡ true = ap (λ (z : ℤ). int_lt z least) (sym sum) ∙ w.if-cost-least.true in
          let is : new ≡ a +ℤ b = w.least-is ∙ sum in
          record {
            near = near_then (a +ℤ b) least new less is c.loop-other_month.invariant.near;
            cheapest = λ on zs told lt. subst (IsCheapest on zs c.args.side c.args.month (k + 1))
                (lesser_then (a +ℤ b) least new k at now less is w.month_of_least-is) (more on zs told lt);
          }
      | else-cost-least w ↦
          let less : int_lt (a +ℤ b) least ≡ false = ap (λ (z : ℤ). int_lt z least) (sym sum) ∙ w.if-cost-least.false in
          record {
            near = subst (λ (z : ℤ). z ≤ℤ NO_PAIR) (sym w.least-is) c.loop-other_month.invariant.near;
            cheapest = λ on zs told lt. subst (IsCheapest on zs c.args.side c.args.month (k + 1))
                (lesser_else (a +ℤ b) least new k at now less w.least-is w.month_of_least-is) (more on zs told lt);
          }
    ]

-- over all months, once the rows have ended
ended : (g : _) (c : After-loop-other_month g) → (on : Pairs) (zs : List Order)
    → AreFrontCosts on c.args.months zs c.args.costs.now → c.args.month < c.args.months →
    IsCheapest on zs c.args.side c.args.month c.args.months
    (least_pair (to_z w64 c.loop-other_month.least-bits) c.loop-other_month.month_of_least)
ended g c on zs told lt =
    let k = c.loop-other_month.other_month in
    let xs = c.spread_row-spreads.result.now in
    let ys = c.outright_row-outrights.result.now in
    let end = c.min-other_month-end.ensures in
    let last = c.loop-other_month.auto.other_month-end in
    let stop = c.loop-other_month-test.false in
    row_ended on zs c.args.side c.args.month k c.args.months c.args.costs.now xs ys
    (least_pair (to_z w64 c.loop-other_month.least-bits) c.loop-other_month.month_of_least) told lt
    (omega (arith, end, last, stop)) c.spread_row-spreads.ensures.most c.spread_row-spreads.ensures.costs
    c.outright_row-outrights.ensures.costs (c.loop-other_month.invariant.cheapest on zs told lt)

pub returns : goal.returns
returns g c = ended g (goal.at.returns g c).After-loop-other_month
