use Rattle.std.proofs.Common.{◌≡◌, IfSome, fold, map, take}
use Rattle.spread_rules.specs.declared.candidate.Counterparty.TheVariants.{Implied}
use Rattle.spread_rules.specs.code.Candidates.{HasLegPrice}
use Rattle.spread_rules_rulebook.specs.Rulebook.{implied}
use Rattle.explain_turns.specs.code.Search.{next_step}
use Rattle.explain_turns.proofs.next.with_pairs.Given as goal

abbrev pub invariant-loop-second : goal.invariant-loop-second
invariant-loop-second l = record {
  found : l.found ≡ fold (next_step (implied l.rules) l.new l.bound) l.fn.best
      (map (Implied l.first) (take l.second-index l.orders));
  small : IfSome l.found HasLegPrice;
}
