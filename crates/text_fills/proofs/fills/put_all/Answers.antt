use Rattle.std.proofs.Common.{take, arith}
use Rattle.text_fills.specs.Fills.{fill_line}
use Rattle.text_messages.proofs.LinesInTurn.{line_put, line_fails}
use Rattle.text_messages.proofs.BlocksInTurn.{put_stops}
use Rattle.text_fills.proofs.MonthSums.{room_taken, sums_taken, fill_added}
use Rattle.text_fills.proofs.fills.put_all.Goals as goal

pub returns-in_err-put_whole-clause-puts : goal.returns-in_err-put_whole-clause-puts
returns-in_err-put_whole-clause-puts g c =
    let told = λ (k : _). g.K.TakesBlocks.written k in
    let end = c.put_line-end in
    put_stops _ c.from_residual.result c.from_residual.ensures.1 c.in_err-put_whole.ensures.puts.failed
    (line_fails (fill_line c.args.rulebook.now) c.args.fills.now c.loop-fill.fill-index c.fill-item.result
    (take end.result end.new.room) (told c.args.sink.now) (told c.loop-fill.sink) (told c.put_whole.new.sink)
    c.args.block.now.items c.loop-fill.block.items c.put_whole.new.block.items c.fill-item.is c.loop-fill-test.true
    end.ensures.text c.loop-fill.invariant.0
    c.in_err-put_whole.ensures.puts.front)

pub loop-fill-preserved : goal.loop-fill-preserved
loop-fill-preserved g c =
    let told = λ (k : _). g.K.TakesBlocks.written k in
    let end = c.put_line-end in (
      line_put (fill_line c.args.rulebook.now) c.args.fills.now c.loop-fill.fill-index c.fill-item.result
          (take end.result end.new.room) (told c.args.sink.now) (told c.loop-fill.sink) (told c.put_whole.new.sink)
          c.args.block.now.items c.loop-fill.block.items c.put_whole.new.block.items c.fill-item.is
          c.loop-fill-test.true end.ensures.text c.loop-fill.invariant.0
          c.in_ok-put_whole.ensures.puts.put,
      c.in_ok-put_whole.ensures.puts.sound,
      omega (arith, c.in_ok-put_whole.ensures.capacity, c.loop-fill.invariant.2),
      fill_added c.args.fills.now c.loop-fill.fill-index c.fill-item.result c.loop-fill.totals c.add_fill.new.totals
          c.fill-item.is c.loop-fill-test.true c.loop-fill.invariant.3 c.add_fill.ensures,
    )

pub add_fill-requires-clause-room : goal.add_fill-requires-clause-room
add_fill-requires-clause-room g c = room_taken c.args.fills.now c.loop-fill.fill-index c.loop-fill.totals
    c.loop-fill.invariant.3 c.requires.summable (omega arith)

pub returns-clause-totals : goal.returns-clause-totals
returns-clause-totals g c = sums_taken c.args.fills.now c.loop-fill.fill-index c.loop-fill.totals
    c.loop-fill.invariant.3 (omega arith)
