use Rattle.std.proofs.Common.{List, Option, Bool, Ok, sym, subst, take, arith}
use Rattle.spread_rules_rulebook.specs.RulebookText.{SoFar, LineGives, pair_twice, pair}
use Rattle.spread_rules_rulebook.specs.code.DraftFields.{so_far}
use Rattle.spread_rules_rulebook.proofs.rulebook_text.add_switch.Goals as goal

pub put-requires : goal.put-requires
put-requires c =
    let draft = c.requires.draft in
    let within = draft.within in
    let long = draft.switches in
    let order = c.requires.order in
    let named = c.requires.named in
    omega arith

pub returns-in-Some-clause-gives : goal.returns-in-Some-clause-gives
returns-in-Some-clause-gives c = λ n line p. pair_twice c.requires.tick.0 c.args.pair.near c.args.pair.far
    c.args.pair.on c.in-Some.field-0 c.requires.tick.1 p (sym c.in-Some.ensures)

pub returns-in-None-clause-gives : goal.returns-in-None-clause-gives
returns-in-None-clause-gives c = λ n line p.
    let d = c.args.draft.now in
    subst (λ (rows : List (Option Bool)). let b : SoFar =
    record { tick = d.tick; months = take d.list.count d.list.slots; switches = rows } in
    LineGives n (so_far d) line (Ok b))
    (sym c.put.ensures) (pair c.requires.tick.0 c.args.pair.near c.args.pair.far c.args.pair.on c.requires.tick.1 p
    (sym c.in-None.ensures))
