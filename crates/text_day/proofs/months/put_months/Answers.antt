use Rattle.std.proofs.Common.{◌<◌, ◌++◌, List, ℕ, length, take, ap, ◌∙◌, arith}
use Rattle.std.proofs.lemmas.List.{length-map, take_all}
use Rattle.spread_rules_rulebook.specs.declared.rulebook.Month.{Month}
use Rattle.spread_rules_rulebook.specs.Rulebook.{names_of}
use Rattle.text_fills.specs.code.Sums.{empty_month}
use Rattle.text_day.specs.code.LineParts.{totals_lines_from}
use Rattle.text_day.proofs.MonthLines.{any_default, line_next, months_step, lines_of_fills}
use Rattle.text_day.proofs.months.put_months.Goals as goal

pub loop-month-preserved : goal.loop-month-preserved
loop-month-preserved g c =
    let names = names_of c.args.rulebook.now in
    let month = c.loop-month.month in
    let count = length-map c.args.rulebook.now.months (λ (m : Month). m.name) in
    let lt : month < length names = omega (arith, c.months-months.ensures.count, c.loop-month-test.true, count) in
    let below : month < length c.month_totals-totals.result =
    omega (arith, c.loop-month-test.array_long, c.loop-month-test.true, c.months-months.ensures.most) in
    let line = take c.put_month-end.result c.put_month-end.new.room in
    let next = line_next line c.name_id.result names month _ c.month_totals-totals.result c.put_month-end.ensures.text
    c.name_id.ensures.value (any_default c.month_totals-totals.result month _ empty_month below) lt in
    months_step c.args.out.now.items c.loop-month.out.items c.extend_from_slice.new.self.items line names month
    c.month_totals-totals.result c.loop-month.invariant c.in_ok-extend_from_slice.ensures.items next

pub returns : goal.returns
returns g c =
    let names = names_of c.args.rulebook.now in
    let totals = c.month_totals-totals.result in
    let count = length-map c.args.rulebook.now.months (λ (m : Month). m.name) in
    let all = take_all c.loop-month.month names (omega
    (arith, c.months-months.ensures.count, c.loop-month-test.false, count)) in
    c.loop-month.invariant
    ∙ ap (λ (t : List ℕ). c.args.out.now.items ++ t)
    (ap (λ (ns : List (List ℕ)). totals_lines_from 0 ns totals) all
    ∙ lines_of_fills names 0 c.args.fills.now totals c.month_totals-totals.ensures
    (omega (arith, count, c.months-months.ensures.count, c.months-months.ensures.most)))
