use Rattle.std.proofs.Common.{arith}
use Rattle.std.proofs.lemmas.Int.{ints}
use Rattle.spread_rules_rulebook.proofs.rulebook_texts.MonthLinesReadOnce.{reference_is, no_rest}
use Rattle.spread_rules_rulebook.proofs.rulebook_text.read_reference.Goals as goal

pub returns-then-reference-clause-none : goal.returns-then-reference-clause-none
returns-then-reference-clause-none c = λ z f e.
    let same = reference_is c.args.tick c.in-Some.reference z c.args.text.now c.in-Some.ensures.fits
    c.in-Some.ensures.found f e in
    let low = f.price.low in
    omega (arith, ints)

pub returns-then-reference-gt-MAX_PRICE-clause-none : goal.returns-then-reference-gt-MAX_PRICE-clause-none
returns-then-reference-gt-MAX_PRICE-clause-none c = λ z f e.
    let same = reference_is c.args.tick c.in-Some.reference z c.args.text.now c.in-Some.ensures.fits
    c.in-Some.ensures.found f e in
    let high = f.price.high in
    omega (arith, ints)

pub returns-then-reference-tick-ne0-clause-none : goal.returns-then-reference-tick-ne0-clause-none
returns-then-reference-tick-ne0-clause-none c = λ z f e.
    let same = reference_is c.args.tick c.in-Some.reference z c.args.text.now c.in-Some.ensures.fits
    c.in-Some.ensures.found f e in
    absurd (c.if-reference-tick-ne0.true (no_rest c.in-Some.reference z c.args.tick c.in-Some.ensures.fits c.ranges.tick
    same f.multiple))
