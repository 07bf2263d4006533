use Rattle.std.proofs.Common.{◌≡◌, ℕ, ◌<◌, ℤ, List, Option, IfSome, length, get_or, pos, slice_set, sym, ap, subst, ◌∙◌, arith, inl, inr}
use Rattle.std.proofs.lemmas.List.{length-set}
use Rattle.spread_rules_rulebook.specs.Prices.{IsOrderPrice}
use Rattle.spread_books_plain.specs.Pairs.{IsCheapest}
use Rattle.spread_books_plain.specs.declared.pair.PairCost.{PairCost}
use Rattle.spread_books_search.specs.code.Cheapest.{KeepsOthers, sooner_of}
use Rattle.spread_books_quotes.specs.code.FrontCosts.{cell_of, row_cell, cost_of_cell, costs_of, cost_at, spread_cost, pairs_of, pair_of_cell}
use Rattle.spread_books_quotes.specs.code.QuoteTable.{HasCheapest}
use Rattle.spread_books_search.proofs.fronts.Suffice.{less_or_same}
use Rattle.spread_books_quotes.proofs.quotes.Cells.{cell_whole, sum_whole, small_there, told_there, length_told}
use Rattle.spread_books_quotes.proofs.quotes.PairCells.{came_told, put_elsewhere, put_there, held_there, known_within, row_within}
use Rattle.spread_books_quotes.proofs.quotes.Tables.{cell_as}
use Rattle.spread_books_quotes.proofs.quote_table.renew_row_came.Goals as goal
use Rattle.spread_books_quotes.proofs.quote_table.renew_row_came.Goals.{After-row_cell}

-- the cost of a month's spread stands in its row
spread_within : (g : _) (c : After-row_cell g) → c.row_cell.result < length c.spread_cells-spreads.result.now
spread_within g c =
    let under = c.loop-month-test.true in
    let first = c.min.ensures in
    let both = c.min-count.ensures in
    let within = c.requires.within in
    let most = c.requires.most in
    row_within c.args.side c.loop-month.month c.args.via (length c.spread_cells-spreads.result.now) c.row_cell.result
    c.row_cell.ensures (omega (arith, under, first, both)) (omega (arith, within, most))

spread_small : (g : _) (c : After-row_cell g) → IfSome
    (cost_of_cell (get_or c.spread_cells-spreads.result.now c.row_cell.result (pos 0))) IsOrderPrice
spread_small g c = small_there c.spread_cells-spreads.result.now c.row_cell.result (pos 0) (spread_within g c)
    c.spread_cells-spreads.ensures.order_price

spread_told : (g : _) (c : After-row_cell g) → cost_of_cell
    (get_or c.spread_cells-spreads.result.now c.row_cell.result (pos 0)) ≡ spread_cost c.args.costs.now c.args.side
    c.loop-month.month c.args.via
spread_told g c =
    told_there c.spread_cells-spreads.result.now c.row_cell.result (pos 0) (spread_within g c)
    ∙ (ap (cost_at (costs_of c.spread_cells-spreads.result.now)) c.row_cell.ensures
    ∙ ap (λ (cs : List (Option ℤ)). cost_at cs (row_cell c.args.side c.loop-month.month c.args.via))
    c.spread_cells-spreads.ensures.costs)

pub bounds-spreads-row_cell : goal.bounds-spreads-row_cell
bounds-spreads-row_cell g c = spread_within g c

pub sum_of_cells-cost-requires-clause-first : goal.sum_of_cells-cost-requires-clause-first
sum_of_cells-cost-requires-clause-first g c =
    let small = spread_small g (goal.at.sum_of_cells-cost-requires-clause-first g c).After-row_cell in
    subst (λ (a : ℤ). IfSome (cost_of_cell a) IsOrderPrice)
    (sym (cell_whole (get_or c.spread_cells-spreads.result.now c.row_cell.result (pos 0)) small)) small

cell_within : (g : _) (c : After-row_cell g) → cell_of c.args.side c.loop-month.month < length c.loop-month.cells
cell_within g c =
    let under = c.loop-month-test.true in
    let first = c.min.ensures in
    let both = c.min-count.ensures in
    subst (λ (n : ℕ). cell_of c.args.side c.loop-month.month < n) (sym c.loop-month.invariant.count)
    (c.side_count.ensures.within c.loop-month.month (omega (arith, under, first, both)))

pub bounds-cells-side_month_cell : goal.bounds-cells-side_month_cell
bounds-cells-side_month_cell g c =
    subst (λ (n : ℕ). n < length c.loop-month.cells) (sym c.side_month_cell.ensures)
    (cell_within g (goal.at.bounds-cells-side_month_cell g c).After-row_cell)

pub loop-month-preserved : goal.loop-month-preserved
loop-month-preserved g c =
    let months = c.args.months in
    let s = c.args.side in
    let k = c.loop-month.month in
    let was = c.loop-month.invariant in
    let cells = c.loop-month.cells in
    let n = c.side_month_cell.result in
    let new = c.offer.new.held in
    let at : n ≡ cell_of s k = c.side_month_cell.ensures in
    record {
      count = length-set cells n new ∙ was.count;
      rest = λ t m other. put_elsewhere cells s t k m n new at (λ q. other q.0) ∙ was.rest t m other;
      later = λ m lt. put_elsewhere cells s s k m n new at (λ q. let e = q.1 in omega (arith, lt, e))
          ∙ was.later m (omega (arith, lt));
      own = λ m before on xs ys told lt among keep h.
          elim (less_or_same on m k before) [
            | inl earlier ↦ cell_as on months ys (pairs_of cells) (pairs_of (slice_set cells n new)) s m
                (put_elsewhere cells s s k m n new at (λ q. let e = q.1 in omega (arith, earlier, e)))
                (was.own m earlier on xs ys told lt among keep h)
            | inr e ↦
                let mine : HasCheapest on months xs (pairs_of cells) s k =
                cell_as on months xs (pairs_of c.args.cells.now) (pairs_of cells) s k (was.later k (omega arith))
                (subst (λ (j : ℕ). HasCheapest on months xs (pairs_of c.args.cells.now) s j) e h) in
                let here : KeepsOthers xs ys s k c.args.via = subst (λ (j : ℕ). KeepsOthers xs ys s j c.args.via) e keep
                in
                let d = (goal.at.loop-month-preserved g c).After-row_cell in
                let none : PairCost = record { cost = pos 0; other_month = 0 } in
                let held = get_or cells n none in
                let a = get_or c.spread_cells-spreads.result.now c.row_cell.result (pos 0) in
                let b = c.outright_cell-outright.result in
                let sum = sum_whole a b c.sum_of_cells-cost.result (spread_small g d)
                c.outright_cell-outright.ensures.order_price c.sum_of_cells-cost.ensures in
                let renewed : IsCheapest on ys s k months (pair_of_cell new) =
                subst (λ (p : PairCost). IsCheapest on ys s k months (pair_of_cell p))
                (sym (c.offer.ensures ∙ ap (λ (z : ℤ). sooner_of z c.args.via held) sum))
                (came_told on xs ys s k months c.args.via here c.requires.within among c.args.costs.now held a b told
                (subst (λ (j : ℕ). j < months) e lt) (spread_told g d) c.outright_cell-outright.ensures.cost
                (spread_small g d) c.outright_cell-outright.ensures.order_price
                (held_there on months xs cells s k n none at (subst (λ (i : ℕ). i < length cells) (sym at)
                (cell_within g d)) mine)) in
                subst (λ (j : ℕ). HasCheapest on months ys (pairs_of (slice_set cells n new)) s j) (sym e)
                (put_there on months ys cells s k n new at renewed)
          ];
    }

pub returns-clause-own : goal.returns-clause-own
returns-clause-own g c = λ m on xs ys told lt among keep h least known.
    let there = subst (λ (n : ℕ). cell_of c.args.side m < n) c.loop-month.invariant.count
    (known_within c.loop-month.cells c.args.side m least known) in
    let in_cells = c.side_count.ensures.all m there in
    let rows = ap length c.spread_cells-spreads.ensures.costs in
    let long = length_told c.spread_cells-spreads.result.now in
    let count = told.spread_count in
    let first = c.min.ensures in
    let months = c.from.ensures in
    let all = c.min-count.ensures in
    let end = c.loop-month-test.false in
    c.loop-month.invariant.own m (omega (arith, in_cells, rows, long, count, first, months, all, end, lt)) on xs ys told
    lt among keep h least known
