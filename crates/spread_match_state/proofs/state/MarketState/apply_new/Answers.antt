use Rattle.std.proofs.Common.{None, ◌∙◌, sym}
use Rattle.spread_match_orders.proofs.entries.NewOrder.{taken_is}
use Rattle.spread_match_state.proofs.entries.NamedInstrument.{listed_found, near_of, months_of}
use Rattle.spread_match_state.proofs.state.MarketState.apply_new.Goals as goal

pub match_new-requires-clause-some : goal.match_new-requires-clause-some
match_new-requires-clause-some g c = (taken_is c.args.rules.now c.args.ticket.now None c.in-Ok.instrument
    (sym c.judge.ensures ∙ c.in-Ok.is)).some

pub match_new-requires-clause-listed : goal.match_new-requires-clause-listed
match_new-requires-clause-listed g c =
    let names = (taken_is c.args.rules.now c.args.ticket.now None c.in-Ok.instrument
    (sym c.judge.ensures ∙ c.in-Ok.is)).names in
    near_of c.args.rules.now c.in-Ok.instrument (listed_found c.args.rules.now c.args.ticket.now.symbol
    c.in-Ok.instrument names)

pub match_new-requires-clause-within : goal.match_new-requires-clause-within
match_new-requires-clause-within g c =
    let names = (taken_is c.args.rules.now c.args.ticket.now None c.in-Ok.instrument
    (sym c.judge.ensures ∙ c.in-Ok.is)).names in
    months_of c.args.rules.now c.in-Ok.instrument (listed_found c.args.rules.now c.args.ticket.now.symbol
    c.in-Ok.instrument names)
