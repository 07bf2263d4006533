use Rattle.text_fills.proofs.MonthSums.{room_far}
use Rattle.text_fills.proofs.totals.add_fill.Goals as goal

pub add_leg-requires-in-Spread-2-clause-room : goal.add_leg-requires-in-Spread-2-clause-room
add_leg-requires-in-Spread-2-clause-room c = room_far c.args.totals.now c.add_leg-in-Spread.new.totals c.in-Spread.near
    c.args.fill.now.side c.args.fill.now c.add_leg-in-Spread.ensures c.requires.summable c.requires.room
