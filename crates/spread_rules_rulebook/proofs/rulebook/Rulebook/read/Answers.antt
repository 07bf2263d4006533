use Rattle.std.proofs.Common.{Err}
use Rattle.spread_rules_rulebook.specs.declared.rule_fault.RuleFault.TheVariants.{NoMonth}
use Rattle.spread_rules_rulebook.proofs.rulebook_texts.DraftsOneLineMore.{ends_without, ends_with, kept_rulebook}
use Rattle.spread_rules_rulebook.proofs.rulebook.Rulebook.read.Goals as goal

pub returns-in-None-clause-reads : goal.returns-in-None-clause-reads
returns-in-None-clause-reads c = c.in-Ok.ensures.reads (Err NoMonth)
    (ends_without c.in-Ok.draft c.in-Ok.ensures.kept (c.in-Ok.ensures.kept.empty c.in-None.is))

pub returns-then-draft-eq0-clause-reads : goal.returns-then-draft-eq0-clause-reads
returns-then-draft-eq0-clause-reads c = c.in-Ok.ensures.reads (Err NoMonth)
    (ends_without c.in-Ok.draft c.in-Ok.ensures.kept c.if-draft-eq0.true)

pub invariant_of-result : goal.invariant_of-result
invariant_of-result c = kept_rulebook c.in-Ok.draft c.in-Some.tick c.new-guesses.result c.in-Ok.ensures.kept
    c.in-Some.is c.if-draft-eq0.false

pub returns-clause-reads : goal.returns-clause-reads
returns-clause-reads c = c.in-Ok.ensures.reads _ (ends_with c.in-Ok.draft c.in-Some.tick c.in-Ok.ensures.kept
    c.in-Some.is c.if-draft-eq0.false)
