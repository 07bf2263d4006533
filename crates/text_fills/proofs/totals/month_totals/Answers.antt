use Rattle.std.proofs.Common.{arith}
use Rattle.text_fills.proofs.MonthSums.{room_taken, sums_taken}
use Rattle.text_fills.proofs.totals.month_totals.Goals as goal

pub add_fill-requires-clause-room : goal.add_fill-requires-clause-room
add_fill-requires-clause-room c = room_taken c.args.fills.now c.loop-fill.fill-index c.loop-fill.totals
    c.loop-fill.invariant c.requires.summable (omega arith)

pub returns : goal.returns
returns c = sums_taken c.args.fills.now c.loop-fill.fill-index c.loop-fill.totals c.loop-fill.invariant (omega arith)
