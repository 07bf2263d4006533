use Rattle.std.proofs.Common.{◌≡◌, take}
use Rattle.apply_market.specs.Application.{HasApplied, rules_of}
use Rattle.tests_days.proofs.host.applied.apply_all.Given as goal

abbrev pub invariant-loop-entry : goal.invariant-loop-entry
invariant-loop-entry g l = HasApplied (take l.entry-index l.journal) l.applied × (rules_of l.applied ≡ l.rules)
