use Rattle.std.proofs.Common.{take}
use Rattle.apply_market.specs.Application.{HasApplied}
use Rattle.draw_day.proofs.watch.courses_behind.Given as goal

abbrev pub invariant-loop-n : goal.invariant-loop-n
invariant-loop-n g l = HasApplied (take l.n l.journal) l.applied
