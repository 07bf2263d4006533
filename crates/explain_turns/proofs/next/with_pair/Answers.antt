use Rattle.std.proofs.Common.{sym, ◌∙◌}
use Rattle.spread_rules.specs.declared.candidate.Counterparty.TheVariants.{Implied}
use Rattle.spread_rules_rulebook.specs.Rulebook.{implied}
use Rattle.spread_rules.specs.code.Candidates.{candidate_of, all_on}
use Rattle.explain_turns.proofs.ranks.PassedOver.{none_on, some_no, step_none}
use Rattle.explain_turns.proofs.next.with_pair.Goals as goal

pub returns-then-not-levels_meet-clause-value : goal.returns-then-not-levels_meet-clause-value
returns-then-not-levels_meet-clause-value c =
    let on = implied c.args.rules.now in
    let a = c.args.first.now in
    let b = c.args.second.now in
    sym (step_none on c.args.new.now c.args.bound.now c.args.best (Implied a b)
    (none_on on c.args.new.now a b (some_no (candidate_of all_on c.args.new.now (Implied a b))
    (sym (c.levels_meet.ensures a b (sym c.level.ensures) (sym c.level-2.ensures)) ∙ c.if-not-levels_meet.true))))
