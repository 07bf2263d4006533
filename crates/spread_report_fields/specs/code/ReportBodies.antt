-- The fields of the execution reports, part by part.
-- Words of the code alone.
use Rattle.std.specs.Prelude.{ℕ, ℤ, List, [], ◌∷◌, ◌++◌}
use Rattle.fix_wire_frames.specs.declared.tags.TheConstants as tags
use Rattle.fix_wire.specs.declared.writer.Field.{Field}
use Rattle.spread_report_fields.specs.declared.codes.TheConstants.{EXEC_TRANS_TYPE_NEW}
use Rattle.spread_report_fields.specs.declared.report_body.OrderReport.{OrderReport}
use Rattle.spread_report_fields.specs.declared.report_body.RejectReport.{RejectReport}
use Rattle.spread_report_fields.specs.declared.report_body.CancelReport.{CancelReport}
use Rattle.spread_report_fields.specs.declared.report_body.FillReport.{FillReport}
use Rattle.spread_report_fields.specs.Codes.{side_code}
use Rattle.spread_report_fields.specs.code.Codes.{ord_status_code, multi_leg_code}
use Rattle.spread_report_fields.specs.code.Fields.{text_field, number_field, price_field, pair_field}

-- OrderID and ClOrdID
abbrev pub order_fields : OrderReport → List Field
order_fields r = number_field tags.ORDER_ID r.order_id ∷ text_field tags.CL_ORD_ID r.cl_ord_id.now ∷ []

-- ExecID, ExecTransType, ExecType and OrdStatus
abbrev pub event_fields : OrderReport → List Field
event_fields r =
    pair_field tags.EXEC_ID r.exec_id.place r.exec_id.index
    ∷ number_field tags.EXEC_TRANS_TYPE EXEC_TRANS_TYPE_NEW
    ∷ number_field tags.EXEC_TYPE (ord_status_code r.ord_status)
    ∷ number_field tags.ORD_STATUS (ord_status_code r.ord_status)
    ∷ []

-- Symbol, Side and OrderQty
abbrev pub terms_fields : OrderReport → List Field
terms_fields r =
    text_field tags.SYMBOL r.symbol.now
    ∷ number_field tags.SIDE (side_code r.side)
    ∷ number_field tags.ORDER_QTY r.order_qty
    ∷ []

-- LeavesQty, CumQty and AvgPx
abbrev pub left_fields : OrderReport → List Field
left_fields r =
    number_field tags.LEAVES_QTY r.leaves_qty ∷ number_field tags.CUM_QTY r.cum_qty
    ∷ number_field tags.AVG_PX 0 ∷ []

-- LastShares and LastPx
abbrev pub last_fields : ℕ → ℤ → List Field
last_fields quantity at = number_field tags.LAST_SHARES quantity ∷ price_field tags.LAST_PX at ∷ []

-- a report that tells of no trade
abbrev pub fields_of_order : OrderReport → List Field
fields_of_order r = order_fields r ++ (event_fields r ++ (terms_fields r ++ left_fields r))

-- a report of an order that is refused, with OrdRejReason
abbrev pub fields_of_reject : RejectReport → List Field
fields_of_reject r =
    order_fields r.order
    ++ (event_fields r.order
    ++ (number_field tags.ORD_REJ_REASON r.reason ∷ (terms_fields r.order ++ left_fields r.order)))

-- a report of an order that a request cancelled or replaced, with OrigClOrdID
abbrev pub fields_of_cancel : CancelReport → List Field
fields_of_cancel r =
    order_fields r.order
    ++ (text_field tags.ORIG_CL_ORD_ID r.original.now
    ∷ (event_fields r.order ++ (terms_fields r.order ++ left_fields r.order)))

-- a report of a fill, with MultiLegReportingType
abbrev pub fields_of_fill : FillReport → List Field
fields_of_fill r =
    order_fields r.order
    ++ (event_fields r.order
    ++ (terms_fields r.order
    ++ (last_fields r.last_shares r.last_px
    ++ (left_fields r.order
    ++ number_field tags.MULTI_LEG_REPORTING_TYPE (multi_leg_code r.multi_leg) ∷ []))))
