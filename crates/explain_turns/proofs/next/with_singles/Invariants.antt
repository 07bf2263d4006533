use Rattle.std.proofs.Common.{◌≡◌, IfSome, map, take}
use Rattle.spread_rules.specs.declared.candidate.Counterparty.TheVariants.{Direct}
use Rattle.spread_rules.specs.code.Candidates.{HasLegPrice}
use Rattle.spread_rules_rulebook.specs.Rulebook.{implied}
use Rattle.explain_turns.specs.code.Search.{next_candidate_of}
use Rattle.explain_turns.proofs.next.with_singles.Given as goal

abbrev pub invariant-loop-order : goal.invariant-loop-order
invariant-loop-order l = record {
  found : l.found ≡ next_candidate_of (implied l.rules) l.new l.bound (map Direct (take l.order-index l.orders));
  small : IfSome l.found HasLegPrice;
}
