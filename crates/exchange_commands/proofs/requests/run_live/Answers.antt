-- A day in threads can be written as text.
use Rattle.std.proofs.Common.{rules, ◌≤◌, length, arith}
use Rattle.spread_host.proofs.SixteenTexts.{sessions_sent}
use Rattle.exchange_commands.proofs.requests.run_live.Goals as goal

pub print_day-result-requires-clause-printable : goal.print_day-result-requires-clause-printable
print_day-result-requires-clause-printable g c =
    let day = c.in_ok-day.day in
    let made = c.in_ok-day.ensures in
    let each = sessions_sent c.in_ok-rulebook.rulebook c.in_ok-stamp.stamp day.journal.items day.fills.items
    day.out.items made.outgoing made.day in
    let count = each.lists in
    let few : length day.out.items ≤ 16 = omega (arith, count) in
    search (rules, few, each.rows, made.day.shown)
