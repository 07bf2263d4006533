use Rattle.std.proofs.Common.{[], ◌∷◌}
use Rattle.spread_report_orders.specs.ExecutionReports.{new_report, fills_reports}
use Rattle.spread_report_orders.specs.code.Reports.{report, reports_from}
use Rattle.spread_report_outbound.proofs.MoreMessages.{sends_after}
use Rattle.spread_report.proofs.entry.accepted_with_fills.Goals as goal

pub returns-clause-sent : goal.returns-clause-sent
returns-clause-sent g c =
    let o = c.args.order.now in
    sends_after c.args.outbox.now c.send_accepted.new.outbox c.send_fills.new.outbox
    (report o.place 1 (new_report o.session o.place o.ticket.now) ∷ [])
    (reports_from o.place 2 (fills_reports c.args.rules.now c.args.fills.now)) tt c.send_fills.result
    c.in_ok-send_accepted.ensures c.send_fills.ensures.sent
