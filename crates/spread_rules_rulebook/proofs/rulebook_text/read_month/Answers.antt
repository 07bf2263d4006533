use Rattle.std.proofs.Common.{subst, sym}
use Rattle.std.specs.Int.{w64}
use Rattle.std.proofs.lemmas.Int.{to_z-of_z}
use Rattle.spread_rules_rulebook.specs.Rulebook.{IsReference}
use Rattle.spread_rules_rulebook.proofs.rulebook_texts.MonthLinesReadOnce.{no_space, no_name, no_reference}
use Rattle.spread_rules_rulebook.proofs.rulebook_text.read_month.Goals as goal

pub returns-in-None-cut_at-clause-none : goal.returns-in-None-cut_at-clause-none
returns-in-None-cut_at-clause-none c = λ m f e. no_space c.args.tick m c.args.line.now c.in-Some.fields.now
    c.in-Some.ensures.found c.in-None-cut_at.ensures.none f e

pub returns-in-None-read_name-clause-none : goal.returns-in-None-read_name-clause-none
returns-in-None-read_name-clause-none c = λ m f e.
    no_name c.args.tick m c.args.line.now c.in-Some.fields.now c.in-Some-cut_at.cut.0.now c.in-Some-cut_at.cut.1.now
    c.in-Some.ensures.found c.in-Some-cut_at.ensures.found c.in-Some-cut_at.ensures.first
    c.in-None-read_name.ensures.none f e

pub returns-in-None-read_reference-clause-none : goal.returns-in-None-read_reference-clause-none
returns-in-None-read_reference-clause-none c = λ m f e.
    no_reference c.args.tick m c.args.line.now c.in-Some.fields.now c.in-Some-cut_at.cut.0.now
    c.in-Some-cut_at.cut.1.now c.in-Some.ensures.found c.in-Some-cut_at.ensures.found c.in-Some-cut_at.ensures.first
    (λ z h. c.in-None-read_reference.ensures.none z (subst (λ t. IsReference t z)
    (sym (to_z-of_z w64 c.args.tick c.ranges.tick)) h)) f e
