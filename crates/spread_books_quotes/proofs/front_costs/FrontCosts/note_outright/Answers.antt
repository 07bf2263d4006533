use Rattle.std.proofs.Common.{refl, ap, ◌∙◌}
use Rattle.spread_rules.specs.declared.order.Side.{Side}
use Rattle.spread_rules.specs.Legs.{other_side}
use Rattle.spread_books_quotes.specs.code.FrontCosts.{CostRows, row_cell, with_outright_cost}
use Rattle.spread_books_quotes.proofs.quotes.Cells.{cells_put, cells_small, rows_are}
use Rattle.spread_books_quotes.proofs.front_costs.FrontCosts.note_outright.Goals as goal

pub invariant_of-self : goal.invariant_of-self
invariant_of-self g c =
    let n = row_cell (other_side c.args.side) 0 c.args.month in (
      c.self.invariant.0,
      cells_small c.deref_mut.result.now c.put_cost.new.cells c.self.inside.outrights.items c.self.inside.outrights.len
          c.row_cell.result n c.args.cost
          c.put_cost.ensures (c.row_cell.ensures ∙ ap (λ (s : Side). row_cell s 0 c.args.month) c.opposite.ensures)
          c.deref_mut.ensures.value c.deref_mut.ensures.len c.requires c.self.invariant.1,
    )

pub returns : goal.returns
returns g c =
    let n = row_cell (other_side c.args.side) 0 c.args.month in
    rows_are _ _ _ _ refl
    (cells_put c.deref_mut.result.now c.put_cost.new.cells c.self.inside.outrights.items c.self.inside.outrights.len
    c.row_cell.result n c.args.cost
    c.put_cost.ensures (c.row_cell.ensures ∙ ap (λ (s : Side). row_cell s 0 c.args.month) c.opposite.ensures)
    c.deref_mut.ensures.value c.deref_mut.ensures.len c.requires)
    ∙ ap (λ (rows : CostRows). with_outright_cost rows c.args.side c.args.month c.args.cost) c.self.view_is
