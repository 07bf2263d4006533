use Rattle.std.proofs.Common.{take, All}
use Rattle.spread_rules.specs.code.Candidates.{HasOrderPrice}
use Rattle.tests_market.proofs.rules.plain_matcher.are_priced.Given as goal

abbrev pub invariant-loop-order : goal.invariant-loop-order
invariant-loop-order l = All HasOrderPrice (take l.order-index l.orders)
