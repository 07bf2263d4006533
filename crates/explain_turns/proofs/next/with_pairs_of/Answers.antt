use Rattle.std.proofs.Common.{sym, ◌∙◌}
use Rattle.spread_rules_rulebook.specs.Rulebook.{implied}
use Rattle.explain_turns.proofs.ranks.PassedOver.{pairs_none}
use Rattle.explain_turns.proofs.next.with_pairs_of.Goals as goal

pub returns-else-may_be_first-clause-value : goal.returns-else-may_be_first-clause-value
returns-else-may_be_first-clause-value c = sym (pairs_none (implied c.args.rules.now) c.args.new.now c.args.bound.now
    c.args.best c.args.first.now c.args.orders.now (sym c.may_be_first.ensures ∙ c.if-may_be_first.false))
