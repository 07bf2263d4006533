use Rattle.std.proofs.Common.{sym, ap, subst, refl, ◌∙◌}
use Rattle.spread_rules.specs.Candidates.{PlacesDiffer}
use Rattle.spread_rules.specs.Meaning.{is_own}
use Rattle.spread_match_orders.specs.code.Entering.{HaveStatuses}
use Rattle.spread_match_orders.proofs.entries.FoundStands.{find_stands}
use Rattle.spread_match_state.specs.State.{MarketState}
use Rattle.spread_match_state.proofs.state.MarketState.cancel.Goals as goal

pub resting_order-resting-requires-clause-places : goal.resting_order-resting-requires-clause-places
resting_order-resting-requires-clause-places g c =
    subst PlacesDiffer (sym (ap (λ (m : MarketState). m.orders) c.self.view_is)) c.requires.places

pub resting_order-resting-requires-clause-known : goal.resting_order-resting-requires-clause-known
resting_order-resting-requires-clause-known g c =
    subst (λ (m : MarketState). HaveStatuses m.statuses m.orders) (sym c.self.view_is) c.requires.known

pub remove-requires : goal.remove-requires
remove-requires g c = record {
  order = c.in-Some.order;
  stands = find_stands (is_own c.args.session c.args.original.now) (g.B.Book.orders c.self.inside.book)
      c.in-Some.order (sym c.resting_order-resting.ensures ∙ c.in-Some.is);
  at = refl;
}
