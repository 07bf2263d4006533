use Rattle.std.proofs.Common.{◌∙◌, ap, sym, fold, map, arith}
use Rattle.spread_rules.specs.declared.candidate.Counterparty.TheVariants.{Implied}
use Rattle.spread_rules_rulebook.specs.Rulebook.{implied}
use Rattle.explain_turns.specs.code.Search.{next_step}
use Rattle.explain_turns.proofs.ranks.Rows.{rows_more}
use Rattle.explain_turns.proofs.next.least_behind.Goals as goal

pub loop-first-preserved : goal.loop-first-preserved
loop-first-preserved c = record {
  found = c.with_pairs_of-found.ensures.value ∙ ap (λ b. fold
      (next_step (implied c.args.rules.now) c.args.new.now c.args.bound.now) b
      (map (Implied c.first-item.result) c.args.orders.now)) c.loop-first.invariant.found
      ∙ sym (rows_more (implied c.args.rules.now) c.args.new.now c.args.bound.now c.args.orders.now
      c.loop-first.first-index c.first-item.result (omega arith) c.first-item.is);
  small = c.with_pairs_of-found.ensures.leg_price;
}
