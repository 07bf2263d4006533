use Rattle.std.proofs.Common.{◌≡◌}
use Rattle.tests_market.proofs.matching.cases.expect_outcomes.Given as goal

abbrev pub invariant-loop-n : goal.invariant-loop-n
invariant-loop-n g l = l.market.state.last ≡ l.n
