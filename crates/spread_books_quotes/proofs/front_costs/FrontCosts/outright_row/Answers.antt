use Rattle.std.proofs.Common.{◌≡◌, ◌+◌, ℕ, ℤ, List, take, drop, ap, ◌∙◌, arith}
use Rattle.spread_books_quotes.specs.code.FrontCosts.{CostRows, costs_of, cost_at, row_cell, outright_cost}
use Rattle.spread_books_quotes.proofs.quotes.Cells.{row_told, row_small}
use Rattle.spread_books_quotes.proofs.front_costs.FrontCosts.outright_row.Goals as goal
use Rattle.spread_books_quotes.proofs.front_costs.FrontCosts.outright_row.Goals.{After-row}

row_is : (g : _) (c : After-row g) → c.row.result.now ≡ take c.args.months
    (drop (row_cell c.args.side 0 0) c.self.inside.outrights.items)
row_is g c = c.row.ensures
    ∙ (ap (λ (f : ℕ). take c.args.months (drop f c.deref.result.now)) c.row_cell.ensures
    ∙ ap (λ (xs : List ℤ). take c.args.months (drop (row_cell c.args.side 0 0) xs)) c.deref.ensures.value)

pub returns-clause-order_price : goal.returns-clause-order_price
returns-clause-order_price g c = row_small c.self.inside.outrights.items c.row.result.now (row_cell c.args.side 0 0)
    c.args.months (row_is g c) c.self.invariant.1

pub returns-clause-costs : goal.returns-clause-costs
returns-clause-costs g c = λ other lt.
    let there : row_cell c.args.side 0 0 + other ≡ row_cell c.args.side 0 other = omega arith in
    row_told c.self.inside.outrights.items c.row.result.now (row_cell c.args.side 0 0) c.args.months other (row_is g c)
    lt
    ∙ (ap (cost_at (costs_of c.self.inside.outrights.items)) there
    ∙ ap (λ (rows : CostRows). outright_cost rows c.args.side other) c.self.view_is)
