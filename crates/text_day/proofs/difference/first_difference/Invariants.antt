use Rattle.std.proofs.Common.{◌+◌, ◌≤◌, length}
use Rattle.text_day.specs.Differences.{HasPassed}
use Rattle.text_day.proofs.difference.first_difference.Given as goal

abbrev pub invariant-lines : goal.invariant-lines
invariant-lines g l =
    HasPassed l.claim l.right l.claim_rest l.right_rest l.line × (l.line + length l.right_rest ≤ length l.right + 1)

abbrev pub decreases-lines : goal.decreases-lines
decreases-lines g l = length l.right_rest
