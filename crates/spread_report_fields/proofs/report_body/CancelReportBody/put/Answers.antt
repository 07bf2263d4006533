use Rattle.std.proofs.Common.{◌++◌, ◌∷◌, [], take}
use Rattle.spread_report_fields.specs.code.Fields.{text_field}
use Rattle.spread_report_fields.specs.code.ReportBodies.{order_fields, event_fields, terms_fields, left_fields}
use Rattle.spread_report_fields.proofs.FieldsInTurn.{more, next}
use Rattle.spread_report_fields.proofs.report_body.CancelReportBody.put.Goals as goal

pub returns-clause-text : goal.returns-clause-text
returns-clause-text c =
    let r = c.args.self.now in
    let a = r.order in
    let o = take c.args.at c.args.room.now in
    let original = next o _ _ (order_fields a) (text_field 41 r.original.now) c.put_text_field-at.ensures.text
    c.put_order-at.ensures.text in
    let event = more o _ _ (order_fields a ++ text_field 41 r.original.now ∷ []) (event_fields a)
    c.put_event-at.ensures.text original in
    let terms = more o _ _ ((order_fields a ++ text_field 41 r.original.now ∷ []) ++ event_fields a) (terms_fields a)
    c.put_terms-at.ensures.text event in
    more o _ _ (((order_fields a ++ text_field 41 r.original.now ∷ []) ++ event_fields a) ++ terms_fields a)
    (left_fields a) c.put_left.ensures.text terms
