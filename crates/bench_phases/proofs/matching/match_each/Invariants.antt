use Rattle.std.proofs.Common.{◌≡◌}
use Rattle.bench_phases.proofs.matching.match_each.Given as goal

abbrev pub invariant-loop-n : goal.invariant-loop-n
invariant-loop-n g l = l.market.state.last ≡ l.n
