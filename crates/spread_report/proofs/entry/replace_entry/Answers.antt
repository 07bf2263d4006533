use Rattle.std.proofs.Common.{◌∷◌, [], ◌++◌, ℕ, Ok, Err}
use Rattle.std.proofs.lemmas.Result.{err_from_is_err_and}
use Rattle.spread_rules_rulebook.specs.Rulebook.{symbol_of}
use Rattle.spread_report_orders.specs.ExecutionReports.{fills_reports}
use Rattle.spread_report_orders.specs.code.Reports.{report, reports_from, replaced_report}
use Rattle.spread_report_outbound.proofs.MoreMessages.{sends_after, sends_ok, sends_err}
use Rattle.spread_report.proofs.entry.replace_entry.Goals as goal

pub returns-in_ok-send_fills-in-Replaced : goal.returns-in_ok-send_fills-in-Replaced
returns-in_ok-send_fills-in-Replaced g c =
    let a = c.args.applied.now in
    let o = c.in-Replaced.order in
    let first = report a.place 1 (replaced_report (symbol_of c.args.rules.now o.instrument) a.entry.now.session
    c.args.ticket.now.id c.args.original.now o) ∷ [] in
    let rest = reports_from a.place 2 (fills_reports c.args.rules.now a.fills.now) in
    let sent = rw (c.symbol_of-symbol.ensures, c.in-Replaced.order-is) at c.in_ok-send_replaced-in-Replaced.ensures in
    let all = sends_after c.args.outbox.now c.send_replaced.new.outbox c.send_fills.new.outbox
    first rest tt (Ok c.in_ok-send_fills-in-Replaced.field-0) sent c.in_ok-send_fills-in-Replaced.ensures.sent in
    rw c.in-Replaced.is (sends_ok c.args.outbox.now c.send_fills.new.outbox
    (first ++ rest) c.in_ok-send_fills-in-Replaced.field-0 tt all)

pub returns-in_err-send_fills-in-Replaced : goal.returns-in_err-send_fills-in-Replaced
returns-in_err-send_fills-in-Replaced g c =
    let a = c.args.applied.now in
    let o = c.in-Replaced.order in
    let p = err_from_is_err_and c.from_residual-in_err-send_fills-in-Replaced.result
    c.from_residual-in_err-send_fills-in-Replaced.ensures.1 in
    let fault = c.in_err-send_fills-in-Replaced.field-0.0 in
    let first = report a.place 1 (replaced_report (symbol_of c.args.rules.now o.instrument) a.entry.now.session
    c.args.ticket.now.id c.args.original.now o) ∷ [] in
    let rest = reports_from a.place 2 (fills_reports c.args.rules.now a.fills.now) in
    let sent = rw (c.symbol_of-symbol.ensures, c.in-Replaced.order-is) at c.in_ok-send_replaced-in-Replaced.ensures in
    let all = sends_after c.args.outbox.now c.send_replaced.new.outbox c.send_fills.new.outbox
    first rest {T = ℕ} tt (Err fault) sent c.in_err-send_fills-in-Replaced.ensures.sent in
    rw (p.1, p.2, c.in-Replaced.is) (sends_err c.args.outbox.now c.send_fills.new.outbox (first ++ rest) ℕ (Unit {0})
    fault all)

pub returns-in-CancelRefused : goal.returns-in-CancelRefused
returns-in-CancelRefused g c =
    let w = rw (c.in-CancelRefused.reason-is, c.in-CancelRefused.place-is, c.in-CancelRefused.status-is) at
    c.send_cancel_reject.ensures in
    rw c.in-CancelRefused.is w
