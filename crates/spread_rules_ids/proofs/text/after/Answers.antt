use Rattle.spread_rules_ids.proofs.Numbers.{not_after}
use Rattle.spread_rules_ids.proofs.text.after.Goals as goal

pub returns-else-eq-clause-none : goal.returns-else-eq-clause-none
returns-else-eq-clause-none c = λ rest e. not_after c.args.bytes.now c.args.front.now rest _ c.eq.result
    c.split_at.ensures.front c.eq.ensures c.if-eq.false e
