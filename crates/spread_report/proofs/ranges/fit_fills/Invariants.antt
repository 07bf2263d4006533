use Rattle.std.proofs.Common.{◌<◌, ℕ, slice_index_or}
use Rattle.spread_rules.specs.declared.fill.Fill.{Fill}
use Rattle.spread_rules.specs.Ranges.{FitsFill}
use Rattle.spread_report.proofs.ranges.fit_fills.Given as goal

abbrev pub invariant-loop-fill : goal.invariant-loop-fill
invariant-loop-fill l = (k : ℕ) (d : Fill) → k < l.fill-index → FitsFill l.rules (slice_index_or l.fills k d)
