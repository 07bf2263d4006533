use Rattle.std.proofs.Common.{◌++◌, take}
use Rattle.std.specs.Int.{w64}
use Rattle.std.proofs.lemmas.Int.{to_z-of_z}
use Rattle.spread_report_fields.specs.code.Codes.{multi_leg_code}
use Rattle.spread_report_fields.specs.code.Fields.{number_field}
use Rattle.spread_report_fields.specs.code.ReportBodies.{order_fields, event_fields, terms_fields, last_fields, left_fields}
use Rattle.spread_report_fields.proofs.FieldsInTurn.{more, next}
use Rattle.spread_report_fields.proofs.report_body.FillReportBody.put.Goals as goal

pub returns-clause-text : goal.returns-clause-text
returns-clause-text c =
    let r = c.args.self.now in
    let a = r.order in
    let o = take c.args.at c.args.room.now in
    let traded = rw (c.price_of.ensures.value, to_z-of_z w64 r.last_px c.price_of.ensures.fits) at
    c.put_last-at.ensures.text in
    let event = more o _ _ (order_fields a) (event_fields a) c.put_event-at.ensures.text c.put_order-at.ensures.text in
    let terms = more o _ _ (order_fields a ++ event_fields a) (terms_fields a) c.put_terms-at.ensures.text event in
    let last = more o _ _ ((order_fields a ++ event_fields a) ++ terms_fields a) (last_fields r.last_shares r.last_px)
    traded terms in
    let left = more o _ _ (((order_fields a ++ event_fields a) ++ terms_fields a)
    ++ last_fields r.last_shares r.last_px) (left_fields a) c.put_left-at.ensures.text last in
    next o _ _ ((((order_fields a ++ event_fields a) ++ terms_fields a) ++ last_fields r.last_shares r.last_px)
    ++ left_fields a) (number_field 442 (multi_leg_code r.multi_leg))
    (rw c.code.ensures at c.put_field.ensures.text) left
