use Rattle.std.proofs.Common.{rules, [], sym, subst}
use Rattle.spread_match_state.specs.State.{MarketView}
use Rattle.apply_market.specs.Application.{HasApplied}
use Rattle.apply_market.proofs.apply.MatchedJournal.with_capacity.Goals as goal

-- with room made, the market is the one before the first entry
pub returns-clause-start : goal.returns-clause-start
returns-clause-start g c =
    let made : HasApplied [] (record { market = c.new-2.result; count = 0; fills = c.new-3.result.items; last = 0 }) =
    search rules in
    subst (λ (m : MarketView). HasApplied [] (record { market = m; count = 0; fills = c.new-3.result.items; last = 0 }))
    (sym c.reserve.ensures) made
