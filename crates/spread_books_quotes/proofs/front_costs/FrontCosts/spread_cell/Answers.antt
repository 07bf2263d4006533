use Rattle.std.proofs.Common.{◌≡◌, ℤ, List, Option, IfSome, ap, sym, subst, ◌∙◌}
use Rattle.spread_rules_rulebook.specs.Prices.{IsOrderPrice}
use Rattle.spread_books_quotes.specs.code.FrontCosts.{CostRows, costs_of, cost_of_cell, cell_at, cost_at, row_cell}
use Rattle.spread_books_quotes.proofs.quotes.Cells.{told_at, small_at, cell_whole}
use Rattle.spread_books_quotes.proofs.front_costs.FrontCosts.spread_cell.Goals as goal
use Rattle.spread_books_quotes.proofs.front_costs.FrontCosts.spread_cell.Goals.{After-cell_at}

told : (g : _) (c : After-cell_at g) → cost_of_cell c.cell_at.result ≡ cost_at (costs_of c.self.inside.spreads.items)
    (row_cell c.args.side c.args.month c.args.other_month)
told g c =
    let at : c.cell_at.result ≡ cell_at c.self.inside.spreads.items
    (row_cell c.args.side c.args.month c.args.other_month) =
    c.cell_at.ensures ∙ (ap (cell_at c.deref.result.now) c.row_cell.ensures
    ∙ ap (λ (xs : List ℤ). cell_at xs (row_cell c.args.side c.args.month c.args.other_month)) c.deref.ensures.value)
    in
    ap cost_of_cell at ∙ told_at c.self.inside.spreads.items (row_cell c.args.side c.args.month c.args.other_month)

small : (g : _) (c : After-cell_at g) → IfSome (cost_of_cell c.cell_at.result) IsOrderPrice
small g c = subst (λ (o : Option ℤ). IfSome o IsOrderPrice) (sym (told g c))
    (small_at (costs_of c.self.inside.spreads.items) (row_cell c.args.side c.args.month c.args.other_month)
    c.self.invariant.0)

pub returns-clause-cost : goal.returns-clause-cost
returns-clause-cost g c = ap cost_of_cell (cell_whole c.cell_at.result (small g c))
    ∙ (told g c ∙ ap (λ (rows : CostRows). cost_at rows.spreads (row_cell c.args.side c.args.month c.args.other_month))
    c.self.view_is)

pub returns-clause-order_price : goal.returns-clause-order_price
returns-clause-order_price g c = subst (λ (a : ℤ). IfSome (cost_of_cell a) IsOrderPrice)
    (sym (cell_whole c.cell_at.result (small g c))) (small g c)
