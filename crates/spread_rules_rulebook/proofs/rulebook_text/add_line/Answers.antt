use Rattle.std.proofs.Common.{refl}
use Rattle.std.proofs.lemmas.Bool.{false≢true}
use Rattle.spread_rules_rulebook.specs.RulebookText.{skipped, no_tick, no_line}
use Rattle.spread_rules_rulebook.proofs.rulebook_texts.DraftsOneLineMore.{gives_tick, no_month_fits}
use Rattle.spread_rules_rulebook.proofs.rulebook_text.add_line.Goals as goal

pub returns-then-is_skipped-clause-gives : goal.returns-then-is_skipped-clause-gives
returns-then-is_skipped-clause-gives c = skipped (c.if-is_skipped.ensures.0 refl)

pub returns-in-Some-read_tick-clause-gives : goal.returns-in-Some-read_tick-clause-gives
returns-in-Some-read_tick-clause-gives c = gives_tick c.args.number c.args.draft.now c.args.line.now
    c.in-Some-read_tick.tick c.in-None.is c.in-Some-read_tick.ensures.found.0 c.in-Some-read_tick.ensures.found.1

pub returns-in-None-read_tick-clause-gives : goal.returns-in-None-read_tick-clause-gives
returns-in-None-read_tick-clause-gives c = no_tick c.in-None.is (λ s. absurd (false≢true (c.if-is_skipped.ensures.1 s)))
    c.in-None-read_tick.ensures.none

pub read_pair-requires-clause-names : goal.read_pair-requires-clause-names
read_pair-requires-clause-names c = λ k d lt. ((c.requires.tick c.in-Some.tick c.in-Some.is).1 k d lt).name

pub returns-in-None-read_pair-clause-gives : goal.returns-in-None-read_pair-clause-gives
returns-in-None-read_pair-clause-gives c =
    let t = c.in-Some.tick in
    no_line t c.in-Some.is (λ s. absurd (false≢true (c.if-is_skipped.ensures.1 s)))
    (no_month_fits t c.args.line.now (c.requires.tick t c.in-Some.is).0 c.in_default.ensures.none)
    c.in-None-read_pair.ensures.none
