use Rattle.std.proofs.Common.{arith, rules, length, ◌≤◌}
use Rattle.std.proofs.lemmas.Result.{IfOk-at_ok}
use Rattle.spread_host.proofs.AnswersSent.{answer_sent}
use Rattle.tests_days.proofs.live.printing.print_first_trade.Goals as goal

pub print_day-requires-clause-printable : goal.print_day-requires-clause-printable
print_day-requires-clause-printable g c =
    let each = answer_sent c.args.rulebook.now c.stamp.result c.run_day.result c.run_day.ensures.outgoing
    c.run_day.ensures.day in
    let count = IfOk-at_ok _ c.expect-day.ensures each.lists in
    let few : length c.expect-day.result.out.items ≤ 16 = omega (arith, count) in
    let day = IfOk-at_ok _ c.expect-day.ensures c.run_day.ensures.day in
    let rows = IfOk-at_ok _ c.expect-day.ensures each.rows in
    search (rules, few, rows, day.shown)
