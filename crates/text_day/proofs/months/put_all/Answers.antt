use Rattle.std.proofs.Common.{◌≡◌, ◌+◌, ◌++◌, ◌<◌, length, take, arith}
use Rattle.std.proofs.lemmas.List.{length-map}
use Rattle.spread_rules_rulebook.specs.declared.rulebook.Month.{Month}
use Rattle.spread_rules_rulebook.specs.Rulebook.{names_of}
use Rattle.text_fills.specs.code.Sums.{empty_month}
use Rattle.text_messages.proofs.BlocksInTurn.{put_stops}
use Rattle.text_day.specs.code.LineParts.{totals_lines_from}
use Rattle.text_day.proofs.MonthLines.{any_default, line_next, month_put, month_fails}
use Rattle.text_day.proofs.months.put_all.Goals as goal
use Rattle.text_day.proofs.months.put_all.Goals.{After-put_month-end}

-- the line that was made stands behind those of the months before
one_line : (g : _) (c : After-put_month-end g)
    → totals_lines_from 0 (take (c.loop-month.month + 1) (names_of c.args.rulebook.now)) c.args.totals.now
    ≡ totals_lines_from 0 (take c.loop-month.month (names_of c.args.rulebook.now)) c.args.totals.now
    ++ take c.put_month-end.result c.put_month-end.new.room
one_line g c =
    let names = names_of c.args.rulebook.now in
    let month = c.loop-month.month in
    let count = length-map c.args.rulebook.now.months (λ (m : Month). m.name) in
    let lt : month < length names = omega (arith, c.months-months.ensures.count, c.loop-month-test.true, count) in
    let below : month < length c.args.totals.now = omega
    (arith, c.loop-month-test.array_long, c.loop-month-test.true, c.months-months.ensures.most) in
    let line = take c.put_month-end.result c.put_month-end.new.room in
    line_next line c.name_id.result names month _ c.args.totals.now c.put_month-end.ensures.text c.name_id.ensures.value
    (any_default c.args.totals.now month _ empty_month below) lt

pub returns-in_err-put_whole : goal.returns-in_err-put_whole
returns-in_err-put_whole g c =
    let told = λ (k : _). g.K.TakesBlocks.written k in
    let names = names_of c.args.rulebook.now in
    let month = c.loop-month.month in
    let line = take c.put_month-end.result c.put_month-end.new.room in
    let next = one_line g (goal.at.returns-in_err-put_whole g c).After-put_month-end in
    record {
      puts = put_stops _ c.from_residual.result c.from_residual.ensures.1 c.in_err-put_whole.ensures.puts.failed
          (month_fails names month c.args.totals.now line (told c.args.sink.now) (told c.loop-month.sink)
          (told c.put_whole.new.sink) c.args.block.now.items c.loop-month.block.items c.put_whole.new.block.items
          next c.loop-month.invariant.0
          c.in_err-put_whole.ensures.puts.front);
    }

pub loop-month-preserved : goal.loop-month-preserved
loop-month-preserved g c =
    let told = λ (k : _). g.K.TakesBlocks.written k in
    let names = names_of c.args.rulebook.now in
    let month = c.loop-month.month in
    let line = take c.put_month-end.result c.put_month-end.new.room in
    let next = one_line g (goal.at.loop-month-preserved g c).After-put_month-end in (
      month_put names month c.args.totals.now line (told c.args.sink.now) (told c.loop-month.sink)
          (told c.put_whole.new.sink) c.args.block.now.items c.loop-month.block.items c.put_whole.new.block.items next
          c.loop-month.invariant.0
          c.in_ok-put_whole.ensures.puts.put,
      c.in_ok-put_whole.ensures.puts.sound,
      omega (arith, c.in_ok-put_whole.ensures.capacity, c.loop-month.invariant.2),
    )
