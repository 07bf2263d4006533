use Rattle.std.proofs.Common.{rules, ◌≡◌, [], ◌∷◌, ap, ◌∙◌}
use Rattle.spread_rules.specs.declared.candidate.Counterparty.{Counterparty}
use Rattle.spread_rules.specs.Clearing.{fill_of}
use Rattle.spread_rules.specs.Candidates.{members}
use Rattle.spread_rules_rulebook.specs.Rulebook.{references_of}
use Rattle.spread_match_trading.proofs.turns.FillsOfATurn.{fills_made, two_put, three_put}
use Rattle.spread_match_trading.proofs.parts.turn_fills.Goals as goal

pub returns-in-Direct : goal.returns-in-Direct
returns-in-Direct g c =
    let n = c.args.new.now in
    let made = c.args.candidate.now in
    let legs = c.leg_prices-legs.result in
    let o = c.in-Direct.order in
    let own : c.fill_of.result ≡ fill_of n.place c.args.by legs n made.price = search rules in
    let other : c.fill_of-in-Direct.result ≡ fill_of n.place c.args.by legs o o.price = search rules in
    two_put c.new-parts.result.items c.push_reserved.new.self.items c.push_reserved-in-Direct.new.self.items
    c.fill_of.result c.fill_of-in-Direct.result
    (fill_of n.place c.args.by legs n made.price) (fill_of n.place c.args.by legs o o.price)
    c.new-parts.ensures.items c.push_reserved.ensures.items c.push_reserved-in-Direct.ensures.items own other
    ∙ fills_made (references_of c.args.rules.now) n made c.args.by legs (o ∷ [])
    (ap (λ (p : Counterparty). members p) c.in-Direct.is) c.requires.by c.leg_prices-legs.ensures

pub returns-in-Implied : goal.returns-in-Implied
returns-in-Implied g c =
    let n = c.args.new.now in
    let made = c.args.candidate.now in
    let legs = c.leg_prices-legs.result in
    let a = c.in-Implied.a in
    let b = c.in-Implied.b in
    let own : c.fill_of.result ≡ fill_of n.place c.args.by legs n made.price = search rules in
    let first : c.fill_of-in-Implied.result ≡ fill_of n.place c.args.by legs a a.price = search rules in
    let second : c.fill_of-in-Implied-2.result ≡ fill_of n.place c.args.by legs b b.price = search rules in
    three_put c.new-parts.result.items c.push_reserved.new.self.items c.push_reserved-in-Implied.new.self.items
    c.fill_of.result c.fill_of-in-Implied.result
    (fill_of n.place c.args.by legs n made.price) (fill_of n.place c.args.by legs a a.price)
    c.new-parts.ensures.items c.push_reserved.ensures.items c.push_reserved-in-Implied.ensures.items own first
    c.push_reserved-in-Implied-2.new.self.items c.fill_of-in-Implied-2.result (fill_of n.place c.args.by legs b b.price)
    c.push_reserved-in-Implied-2.ensures.items second
    ∙ fills_made (references_of c.args.rules.now) n made c.args.by legs (a ∷ b ∷ [])
    (ap (λ (p : Counterparty). members p) c.in-Implied.is) c.requires.by c.leg_prices-legs.ensures
