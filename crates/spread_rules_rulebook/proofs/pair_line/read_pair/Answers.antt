use Rattle.std.proofs.Common.{arith, sym, ◌<◌, length}
use Rattle.spread_rules_rulebook.specs.RulebookText.{names_in}
use Rattle.std.proofs.lemmas.List.{length-map}
use Rattle.spread_rules_rulebook.specs.declared.rulebook.Month.{Month}
use Rattle.spread_rules_rulebook.proofs.rulebook_texts.PairLinesReadOnce.{if_none, no_spaces, no_field, no_switch, near_is, far_is, number_is}
use Rattle.spread_rules_rulebook.proofs.pair_line.read_pair.Goals as goal

pub returns-in_err-near-clause-none : goal.returns-in_err-near-clause-none
returns-in_err-near-clause-none c = if_none _ c.from_residual-in_err-near.ensures
    (λ i j on p. no_field (names_in c.args.months.now) i j on c.args.line.now c.in_ok-fields.fields.now
    c.in_ok-fields.ensures.found c.in_err-near.ensures.none p)

pub returns-in_err-far-clause-none : goal.returns-in_err-far-clause-none
returns-in_err-far-clause-none c = if_none _ c.from_residual-in_err-far.ensures (λ i j on p.
    no_switch (names_in c.args.months.now) i j on c.args.line.now c.in_ok-fields.fields.now c.in_ok-near.near.now
    c.in_ok-near.others.now (no_spaces c.args.months.now c.requires.names) c.in_ok-fields.ensures.found
    c.in_ok-near.ensures.found c.in_ok-near.ensures.first c.in_err-far.ensures.none p)

pub returns-in_err-near-2-clause-none : goal.returns-in_err-near-2-clause-none
returns-in_err-near-2-clause-none c = if_none _ c.from_residual-in_err-near-2.ensures (λ i j on p.
    let long = length-map c.args.months.now (λ (m : Month). m.name) in
    let order = p.order in
    let named = p.named in
    let parts = near_is (names_in c.args.months.now) i j on c.args.line.now c.in_ok-fields.fields.now
    c.in_ok-near.near.now c.in_ok-near.others.now (no_spaces c.args.months.now c.requires.names)
    c.in_ok-fields.ensures.found c.in_ok-near.ensures.found c.in_ok-near.ensures.first p in
    c.in_err-near-2.ensures.none i (omega arith) (sym parts.0))

pub returns-in_err-far-2-clause-none : goal.returns-in_err-far-2-clause-none
returns-in_err-far-2-clause-none c = if_none _ c.from_residual-in_err-far-2.ensures (λ i j on p.
    let long = length-map c.args.months.now (λ (m : Month). m.name) in
    let named = p.named in
    let parts = far_is (names_in c.args.months.now) i j on c.args.line.now c.in_ok-fields.fields.now
    c.in_ok-near.near.now c.in_ok-near.others.now c.in_ok-far.far.now c.in_ok-far.switch.now
    (no_spaces c.args.months.now c.requires.names) c.in_ok-fields.ensures.found c.in_ok-near.ensures.found
    c.in_ok-near.ensures.first c.in_ok-far.ensures.found c.in_ok-far.ensures.first p in
    c.in_err-far-2.ensures.none j (omega arith) (sym parts.0))

pub returns-in_err-on-clause-none : goal.returns-in_err-on-clause-none
returns-in_err-on-clause-none c = if_none _ c.from_residual-in_err-on.ensures (λ i j on p.
    let parts = far_is (names_in c.args.months.now) i j on c.args.line.now c.in_ok-fields.fields.now
    c.in_ok-near.near.now c.in_ok-near.others.now c.in_ok-far.far.now c.in_ok-far.switch.now
    (no_spaces c.args.months.now c.requires.names) c.in_ok-fields.ensures.found c.in_ok-near.ensures.found
    c.in_ok-near.ensures.first c.in_ok-far.ensures.found c.in_ok-far.ensures.first p in
    c.in_err-on.ensures.none on parts.1)

pub returns-else-near-far-clause-none : goal.returns-else-near-far-clause-none
returns-else-near-far-clause-none c = λ i j on p.
    let long = length-map c.args.months.now (λ (m : Month). m.name) in
    let order = p.order in
    let named = p.named in
    let firsts = near_is (names_in c.args.months.now) i j on c.args.line.now c.in_ok-fields.fields.now
    c.in_ok-near.near.now c.in_ok-near.others.now (no_spaces c.args.months.now c.requires.names)
    c.in_ok-fields.ensures.found c.in_ok-near.ensures.found c.in_ok-near.ensures.first p in
    let parts = far_is (names_in c.args.months.now) i j on c.args.line.now c.in_ok-fields.fields.now
    c.in_ok-near.near.now c.in_ok-near.others.now c.in_ok-far.far.now c.in_ok-far.switch.now
    (no_spaces c.args.months.now c.requires.names) c.in_ok-fields.ensures.found c.in_ok-near.ensures.found
    c.in_ok-near.ensures.first c.in_ok-far.ensures.found c.in_ok-far.ensures.first p in
    let found_near = c.in_ok-near-2.ensures.found in
    let found_far = c.in_ok-far-2.ensures.found in
    let below_near : c.in_ok-near-2.near < length (names_in c.args.months.now) = omega (arith, long, found_near.0) in
    let below_far : c.in_ok-far-2.far < length (names_in c.args.months.now) = omega (arith, long, found_far.0) in
    let near = number_is (names_in c.args.months.now) i c.in_ok-near-2.near c.in_ok-near.near.now c.requires.distinct
    (omega arith) below_near found_near.1 firsts.0 in
    let far = number_is (names_in c.args.months.now) j c.in_ok-far-2.far c.in_ok-far.far.now c.requires.distinct
    (omega arith) below_far found_far.1 parts.0 in
    let not_less = c.if-near-far.false in
    absurd (omega arith)
