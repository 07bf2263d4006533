use Rattle.std.proofs.Common.{take}
use Rattle.apply_desk.specs.Sending.{HasReported}
use Rattle.tests_days.proofs.host.reported.report_all.Given as goal

abbrev pub invariant-loop-entry : goal.invariant-loop-entry
invariant-loop-entry g l = HasReported (take l.entry-index l.journal) l.reported
