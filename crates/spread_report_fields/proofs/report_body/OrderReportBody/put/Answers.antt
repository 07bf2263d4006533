use Rattle.std.proofs.Common.{◌++◌, take}
use Rattle.spread_report_fields.specs.code.ReportBodies.{order_fields, event_fields, terms_fields, left_fields}
use Rattle.spread_report_fields.proofs.FieldsInTurn.{more}
use Rattle.spread_report_fields.proofs.report_body.OrderReportBody.put.Goals as goal

pub returns-clause-text : goal.returns-clause-text
returns-clause-text c =
    let r = c.args.self.now in
    let o = take c.args.at c.args.room.now in
    let event = more o _ _ (order_fields r) (event_fields r) c.put_event-at.ensures.text c.put_order-at.ensures.text in
    let terms = more o _ _ (order_fields r ++ event_fields r) (terms_fields r) c.put_terms-at.ensures.text event in
    more o _ _ ((order_fields r ++ event_fields r) ++ terms_fields r) (left_fields r) c.put_left.ensures.text terms
