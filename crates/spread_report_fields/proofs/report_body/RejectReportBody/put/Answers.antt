use Rattle.std.proofs.Common.{◌++◌, ◌∷◌, [], take}
use Rattle.spread_report_fields.specs.code.Fields.{number_field}
use Rattle.spread_report_fields.specs.code.ReportBodies.{order_fields, event_fields, terms_fields, left_fields}
use Rattle.spread_report_fields.proofs.FieldsInTurn.{more, next}
use Rattle.spread_report_fields.proofs.report_body.RejectReportBody.put.Goals as goal

pub returns-clause-text : goal.returns-clause-text
returns-clause-text c =
    let r = c.args.self.now in
    let a = r.order in
    let o = take c.args.at c.args.room.now in
    let event = more o _ _ (order_fields a) (event_fields a) c.put_event-at.ensures.text c.put_order-at.ensures.text in
    let reason = next o _ _ (order_fields a ++ event_fields a) (number_field 103 r.reason) c.put_field-at.ensures.text
    event in
    let terms = more o _ _ ((order_fields a ++ event_fields a) ++ number_field 103 r.reason ∷ []) (terms_fields a)
    c.put_terms-at.ensures.text reason in
    more o _ _ (((order_fields a ++ event_fields a) ++ number_field 103 r.reason ∷ []) ++ terms_fields a)
    (left_fields a) c.put_left.ensures.text terms
