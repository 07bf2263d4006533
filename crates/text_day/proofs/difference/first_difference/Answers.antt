use Rattle.std.proofs.Common.{ℕ, ap, length, length-append, arith}
use Rattle.text_day.proofs.FirstLines.{line_has_bytes, one_passed}
use Rattle.text_day.proofs.difference.first_difference.Goals as goal

pub lines-preserved : goal.lines-preserved
lines-preserved g c =
    let same = c.in-Some.ensures.same in (
      one_passed c.args.claim.now c.args.right.now _ _ _ _ same.0 c.lines.line c.lines.invariant.0 same.1 same.2 same.3,
      omega (arith, c.lines.invariant.1, line_has_bytes same.0 same.1, ap length same.3, length-append {A = ℕ}),
    )
