use Rattle.std.proofs.Common.{◌≡◌, ℕ, ◌*◌, ℤ, List, replicate, subst, sym, ap, ◌∙◌}
use Rattle.spread_books_quotes.specs.declared.front_costs.TheConstants.{NO_COST}
use Rattle.spread_books_quotes.specs.code.FrontCosts.{costs_of, AreOrderPrices}
use Rattle.spread_books_quotes.proofs.quotes.Cells.{none_told, none_small, resized, rows_are}
use Rattle.spread_books_quotes.proofs.front_costs.FrontCosts.new.Goals as goal

spreads_are : (g : _) (c : goal.In_ok-resize-2 g) → c.resize.new.self.items ≡ replicate (c.args.months * 2 * 24) NO_COST
spreads_are g c =
    c.in_ok-resize.ensures.items
    ∙ (resized c.new-spreads.result.items (c.from.result * 2 * 24) c.new-spreads.result.len c.new-spreads.ensures.items
    c.new-spreads.ensures.len
    ∙ ap (λ (n : ℕ). replicate (n * 2 * 24) NO_COST) c.from.ensures)

outrights_are : (g : _) (c : goal.In_ok-resize-2 g) → c.resize-2.new.self.items ≡ replicate (2 * 24) NO_COST
outrights_are g c =
    c.in_ok-resize-2.ensures.items ∙ resized c.new-outrights.result.items (2 * 24) c.new-outrights.result.len
    c.new-outrights.ensures.items c.new-outrights.ensures.len

pub invariant_of-result : goal.invariant_of-result
invariant_of-result g c = (
  subst (λ (xs : List ℤ). AreOrderPrices (costs_of xs)) (sym (spreads_are g c)) (none_small (c.args.months * 2 * 24)),
  subst (λ (xs : List ℤ). AreOrderPrices (costs_of xs)) (sym (outrights_are g c)) (none_small (2 * 24)),
)

pub returns : goal.returns
returns g c = rows_are _ _ _ _ (ap costs_of (spreads_are g c) ∙ none_told (c.args.months * 2 * 24))
    (ap costs_of (outrights_are g c) ∙ none_told (2 * 24))
