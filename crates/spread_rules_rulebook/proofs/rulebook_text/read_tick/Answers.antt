use Rattle.std.proofs.Common.{arith}
use Rattle.std.proofs.lemmas.Int.{ints}
use Rattle.spread_rules_rulebook.proofs.rulebook_texts.MonthLinesReadOnce.{tick_is}
use Rattle.spread_rules_rulebook.proofs.rulebook_text.read_tick.Goals as goal

pub returns-then-tick-lt1-clause-none : goal.returns-then-tick-lt1-clause-none
returns-then-tick-lt1-clause-none c = λ t f e.
    let same = tick_is c.in-Some-read_plain.tick t c.args.line.now c.in-Some.digits.now
    c.in-Some-read_plain.ensures.fits c.in-Some.ensures.found c.in-Some-read_plain.ensures.found f e in
    let low = f.low in
    omega (arith, ints)

pub returns-then-tick-gt-MAX_TICK-clause-none : goal.returns-then-tick-gt-MAX_TICK-clause-none
returns-then-tick-gt-MAX_TICK-clause-none c = λ t f e.
    let same = tick_is c.in-Some-read_plain.tick t c.args.line.now c.in-Some.digits.now
    c.in-Some-read_plain.ensures.fits c.in-Some.ensures.found c.in-Some-read_plain.ensures.found f e in
    let high = f.high in
    omega (arith, ints)
