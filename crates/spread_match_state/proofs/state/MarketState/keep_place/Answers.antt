use Rattle.std.proofs.Common.{List, sym, subst, ap}
use Rattle.spread_rules.specs.declared.order.Order.{Order}
use Rattle.spread_books_plain.specs.Queues.{CanAmend}
use Rattle.spread_match_state.specs.State.{MarketState}
use Rattle.spread_match_state.proofs.entries.ReplacedStates.{may_amend}
use Rattle.spread_match_state.proofs.state.MarketState.keep_place.Goals as goal

pub add_amended-requires-clause-amend : goal.add_amended-requires-clause-amend
add_amended-requires-clause-amend g c =
    let m = c.args.self.now in
    let r = c.args.resting.now in
    let t = c.args.ticket.now in
    subst (λ (xs : List Order). CanAmend xs r.place t.id t.quantity)
    (sym (ap (λ (x : MarketState). x.orders) c.self.view_is))
    (may_amend m.orders m.statuses r t.id t.quantity c.requires.places c.requires.known c.requires.rests
    c.requires.unused c.requires.more c.requires.most)
