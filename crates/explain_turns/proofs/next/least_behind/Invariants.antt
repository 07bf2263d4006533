use Rattle.std.proofs.Common.{◌≡◌, IfSome, map, take, ◌++◌}
use Rattle.std.specs.List.{flat_map}
use Rattle.spread_rules.specs.declared.candidate.Counterparty.TheVariants.{Direct, Implied}
use Rattle.spread_rules.specs.code.Candidates.{HasLegPrice}
use Rattle.spread_rules_rulebook.specs.Rulebook.{implied}
use Rattle.explain_turns.specs.code.Search.{next_candidate_of}
use Rattle.explain_turns.proofs.next.least_behind.Given as goal

abbrev pub invariant-loop-first : goal.invariant-loop-first
invariant-loop-first l = record {
  found : l.found ≡ next_candidate_of (implied l.rules) l.new l.bound
      (map Direct l.orders ++ flat_map (λ a. map (Implied a) l.orders) (take l.first-index l.orders));
  small : IfSome l.found HasLegPrice;
}
