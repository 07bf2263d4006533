use Rattle.std.proofs.Common.{◌≡◌, true, take, eqb, not}
use Rattle.std.specs.List.{list_all}
use Rattle.spread_rules_ids.proofs.id.is_plain.Given as goal

abbrev pub invariant-loop-b : goal.invariant-loop-b
invariant-loop-b l = list_all (λ b. not (eqb b 1)) (take l.b-index l.text) ≡ true
