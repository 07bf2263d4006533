use Rattle.std.proofs.Common.{◌≡◌, take}
use Rattle.std.specs.Prelude.{fold}
use Rattle.text_fills.specs.code.Sums.{with_fill, empty_months}
use Rattle.text_fills.proofs.totals.month_totals.Given as goal

abbrev pub invariant-loop-fill : goal.invariant-loop-fill
invariant-loop-fill l = l.totals ≡ fold with_fill empty_months (take l.fill-index l.fills)
