use Rattle.std.proofs.Common.{◌≡◌, ◌+◌, ◌*◌, ◌≤◌, take}
use Rattle.spread_report_orders.specs.ExecutionReports.{fills_reports}
use Rattle.spread_report_orders.specs.code.Reports.{reports_from, reports_of}
use Rattle.spread_report_outbound.specs.code.Sending.{Sends}
use Rattle.spread_report_outbound.proofs.MoreMessages.{all_sent}
use Rattle.spread_report_orders.proofs.fill.send_fills.Given as goal

abbrev pub invariant-loop-one : goal.invariant-loop-one
invariant-loop-one g l = record {
  sent : Sends l.initial.outbox l.outbox
      (reports_from l.place 2 (fills_reports l.rules (take l.one-index l.fills))) all_sent;
  index : l.index ≡ 2 + reports_of (take l.one-index l.fills);
  bound : l.index ≤ 2 + 3 * l.one-index;
}
