use Rattle.std.proofs.Common.{◌≡◌, ℤ, List, Option, true, false, nat_lt, slice_set, refl, arith, ap, sym, subst, ◌∙◌}
use Rattle.std.proofs.lemmas.Bool.Decides.{nat_tests}
use Rattle.spread_rules.specs.declared.order.Side.{Side}
use Rattle.spread_rules.specs.Legs.{other_side}
use Rattle.spread_books_quotes.specs.code.FrontCosts.{CostRows, AreOrderPrices, costs_of, row_cell, set_if, with_spread_cost}
use Rattle.spread_books_quotes.proofs.quotes.Cells.{cells_put, cells_small, set_if_small, rows_are, spread_put}
use Rattle.spread_books_quotes.proofs.front_costs.FrontCosts.note_spread.Goals as goal
use Rattle.spread_books_quotes.proofs.front_costs.FrontCosts.note_spread.Goals.{Joined-near-far, then-near-far, else-near-far}

-- the cells before the last one is put
first_put : (g : _) (c : Joined-near-far g) → costs_of c.if-near-far.self-inside.spreads.items ≡ set_if
    (nat_lt c.args.near c.args.far) (costs_of c.self.inside.spreads.items)
    (row_cell (other_side c.args.side) c.args.near c.args.far) c.args.cost
first_put g c = elim c.if-near-far.branch [
  | then-near-far w ↦
      let near = w.if-near-far.true in
      let order : nat_lt c.args.near c.args.far ≡ true = grind (arith, nat_tests, near) in
      rw (w.self-inside-is, order)
      (cells_put w.deref_mut.result.now w.put_cost.new.cells c.self.inside.spreads.items c.self.inside.spreads.len
      w.row_cell.result (row_cell (other_side c.args.side) c.args.near c.args.far) c.args.cost
      w.put_cost.ensures (w.row_cell.ensures ∙ ap (λ (s : Side). row_cell s c.args.near c.args.far) w.opposite.ensures)
      w.deref_mut.ensures.value w.deref_mut.ensures.len c.requires)
  | else-near-far w ↦
      let near = w.if-near-far.false in
      let order : nat_lt c.args.near c.args.far ≡ false = grind (arith, nat_tests, near) in
      rw (w.self-inside-is, order) refl
]

outrights_kept : (g : _) (c : Joined-near-far g) → c.if-near-far.self-inside.outrights.items ≡
    c.self.inside.outrights.items
outrights_kept g c = elim c.if-near-far.branch [
  | then-near-far w ↦ rw w.self-inside-is refl
  | else-near-far w ↦ rw w.self-inside-is refl
]

pub invariant_of-self : goal.invariant_of-self
invariant_of-self g c =
    let d = (goal.at.invariant_of-self g c).Joined-near-far in
    let small = subst AreOrderPrices (sym (first_put g d))
    (set_if_small (nat_lt c.args.near c.args.far) (costs_of c.self.inside.spreads.items)
    (row_cell (other_side c.args.side) c.args.near c.args.far) c.args.cost c.requires c.self.invariant.0) in (
      cells_small c.deref_mut-then-near-far-2.result.now c.put_cost-then-near-far-2.new.cells
          c.if-near-far.self-inside.spreads.items c.if-near-far.self-inside.spreads.len
          c.row_cell-then-near-far-2.result (row_cell c.args.side c.args.far c.args.near) c.args.cost
          c.put_cost-then-near-far-2.ensures c.row_cell-then-near-far-2.ensures
          c.deref_mut-then-near-far-2.ensures.value c.deref_mut-then-near-far-2.ensures.len c.requires small,
      subst (λ (xs : List ℤ). AreOrderPrices (costs_of xs)) (sym (outrights_kept g d)) c.self.invariant.1,
    )

pub returns-then-near-far-2 : goal.returns-then-near-far-2
returns-then-near-far-2 g c =
    let d = (goal.at.returns-then-near-far-2 g c).Joined-near-far in
    let last = cells_put c.deref_mut-then-near-far-2.result.now c.put_cost-then-near-far-2.new.cells
    c.if-near-far.self-inside.spreads.items c.if-near-far.self-inside.spreads.len c.row_cell-then-near-far-2.result
    (row_cell c.args.side c.args.far c.args.near) c.args.cost
    c.put_cost-then-near-far-2.ensures c.row_cell-then-near-far-2.ensures c.deref_mut-then-near-far-2.ensures.value
    c.deref_mut-then-near-far-2.ensures.len c.requires in
    rows_are _ _ _ _ (last ∙ ap (λ (cs : List (Option ℤ)). slice_set cs (row_cell c.args.side c.args.far c.args.near)
    c.args.cost) (first_put g d)) (ap costs_of (outrights_kept g d))
    ∙ (spread_put (record {
      spreads = costs_of c.self.inside.spreads.items;
      outrights =
          costs_of c.self.inside.outrights.items;
    }) c.args.side c.args.near c.args.far c.args.cost c.if-near-far-2.true
    ∙ ap (λ (rows : CostRows). with_spread_cost rows c.args.side c.args.near c.args.far c.args.cost) c.self.view_is)
