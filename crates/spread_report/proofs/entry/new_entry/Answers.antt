use Rattle.std.proofs.Common.{◌≡◌, List, [], ◌∷◌, ◌++◌, ◌+◌, ℕ, ap, sym, ◌∙◌, Err}
use Rattle.std.proofs.lemmas.Result.{err_from_is_err_and}
use Rattle.spread_report_orders.specs.ExecutionReports.{ExecutionReport, new_report, fills_reports}
use Rattle.spread_report_outbound.specs.code.Addressed.{AddressedStep}
use Rattle.spread_report_orders.specs.code.Reports.{report, reports_from, ended_report, reports_of}
use Rattle.spread_report.specs.code.Addressed.{event_messages}
use Rattle.spread_report_orders.proofs.OneFillMore.{report_behind}
use Rattle.spread_rules.specs.declared.event.Event.TheVariants.{New}
use Rattle.spread_rules.specs.declared.outcome.Outcome.{Outcome}
use Rattle.spread_rules.specs.declared.outcome.Outcome.TheVariants.{Ended}
use Rattle.spread_report_outbound.proofs.MoreMessages.{sends_after, sends_no_more, sends_same}
use Rattle.spread_report.proofs.entry.new_entry.Goals as goal

pub returns-in_ok-index-in-Ended : goal.returns-in_ok-index-in-Ended
returns-in_ok-index-in-Ended g c =
    let o = c.args.order.now in
    let first : ExecutionReport = new_report o.session o.place o.ticket.now in
    let last : ExecutionReport = ended_report o.session o.place o.ticket.now c.in-Ended.left in
    let sent : List AddressedStep = reports_from o.place 1 (first ∷ fills_reports c.args.rules.now c.args.fills.now) in
    let e = rw c.in_ok-index-in-Ended.ensures.index at c.send_ended.ensures in
    let all = sends_after c.args.outbox.now c.accepted_with_fills-in-Ended.new.outbox c.send_ended.new.outbox
    sent
    (report o.place (2 + reports_of c.args.fills.now) last ∷ []) c.in_ok-index-in-Ended.index c.send_ended.result
    c.in_ok-index-in-Ended.ensures.sent e in
    rw (c.in-Ended.is, ← c.in-Ended.left-is)
    (sends_same c.args.outbox.now c.send_ended.new.outbox
    (sent ++ report o.place (2 + reports_of c.args.fills.now) last ∷ [])
    (event_messages c.args.rules.now o.place o.session (New o.ticket.now) (Ended c.in-Ended.left) c.args.fills.now)
    c.send_ended.result
    (report_behind c.args.rules.now o.place first last c.args.fills.now) all)

pub returns-in_err-index-in-Ended : goal.returns-in_err-index-in-Ended
returns-in_err-index-in-Ended g c =
    let o = c.args.order.now in
    let p = err_from_is_err_and c.from_residual-in_err-index-in-Ended.result
    c.from_residual-in_err-index-in-Ended.ensures.1 in
    let fault = c.in_err-index-in-Ended.field-0.0 in
    let first : ExecutionReport = new_report o.session o.place o.ticket.now in
    let last : ExecutionReport = ended_report o.session o.place o.ticket.now c.in-Ended.left in
    let sent : List AddressedStep = reports_from o.place 1 (first ∷ fills_reports c.args.rules.now c.args.fills.now) in
    let behind : List AddressedStep = report o.place (2 + reports_of c.args.fills.now) last ∷ [] in
    let all = sends_no_more c.args.outbox.now c.accepted_with_fills-in-Ended.new.outbox
    sent behind ℕ (Unit {0}) fault c.in_err-index-in-Ended.ensures.sent in
    let ended : c.args.outcome.now ≡ Ended c.in-Ended.left = rw c.in-Ended.left-is c.in-Ended.is in
    rw (p.1, p.2)
    (sends_same c.args.outbox.now c.accepted_with_fills-in-Ended.new.outbox
    (sent ++ behind)
    (event_messages c.args.rules.now o.place o.session (New o.ticket.now) c.args.outcome.now c.args.fills.now)
    {T = Unit {0}} (Err fault)
    (report_behind c.args.rules.now o.place first last c.args.fills.now
    ∙ ap (λ (out : Outcome). event_messages c.args.rules.now o.place o.session (New o.ticket.now) out c.args.fills.now)
    (sym ended)) all)
