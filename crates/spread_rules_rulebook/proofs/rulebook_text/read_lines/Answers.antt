use Rattle.std.proofs.Common.{arith, ap, length, Err, Result, length-append}
use Rattle.spread_rules_rulebook.specs.declared.rule_fault.RuleFault.{RuleFault}
use Rattle.spread_rules_rulebook.specs.Rulebook.{Rules}
use Rattle.spread_rules_rulebook.specs.code.DraftFields.{so_far}
use Rattle.spread_rules_rulebook.specs.RulebookText.{last, last_fault, more, fault}
use Rattle.spread_rules_rulebook.proofs.rulebook_text.read_lines.Goals as goal

pub returns-in-Ok-clause-reads : goal.returns-in-Ok-clause-reads
returns-in-Ok-clause-reads c = λ answer end. c.lines.invariant.2 answer
    (last (so_far c.add_line.new.draft) c.in-None.ensures.none c.in-Ok.ensures.gives end)

pub returns-in-Err-clause-reads : goal.returns-in-Err-clause-reads
returns-in-Err-clause-reads c = c.lines.invariant.2 (Err c.in-Err.fault)
    (last_fault c.in-Err.fault c.in-None.ensures.none c.in-Err.ensures.gives)

pub returns-in-Err-add_line-clause-reads : goal.returns-in-Err-add_line-clause-reads
returns-in-Err-add_line-clause-reads c = c.lines.invariant.2 (Err c.in-Err-add_line.fault)
    (fault c.in-Some.cut.0.now c.in-Some.cut.1.now c.in-Err-add_line.fault c.in-Some.ensures.found
    c.in-Some.ensures.first c.in-Err-add_line.ensures.gives)

pub lines-preserved : goal.lines-preserved
lines-preserved c = (
  c.in-Ok-add_line.ensures.kept,
  omega (arith, c.lines.invariant.1, simp length-append at (ap length c.in-Some.ensures.found)),
  λ (answer : Result Rules RuleFault) reads.
      c.lines.invariant.2 answer (more c.in-Some.cut.0.now c.in-Some.cut.1.now (so_far c.add_line-in-lines.new.draft)
      c.in-Some.ensures.found c.in-Some.ensures.first c.in-Ok-add_line.ensures.gives reads),
)
