-- What each execution report says, field by field.
use Rattle.std.specs.Prelude.{ℕ, ◌-◌, ◌==◌, if◌then◌else◌, List, [], ◌∷◌, ◌++◌, map, Option, Some, None}
use Rattle.std.specs.List.{flat_map}
use Rattle.fix_wire_frames.specs.declared.msg_types.TheConstants as msg_types
use Rattle.fix_wire_frames.specs.declared.tags.TheConstants as tags
use Rattle.fix_wire.specs.declared.writer.Value.TheVariants.{Text, Number, Price, Pair}
use Rattle.fix_wire.specs.Layout.{field}
use Rattle.spread_rules.specs.declared.codes.ord_status.TheConstants as status
use Rattle.spread_rules.specs.declared.order.Order.{Order}
use Rattle.spread_rules.specs.declared.order.Side.{Side}
use Rattle.spread_rules_rulebook.specs.declared.instrument.Instrument.{Instrument}
use Rattle.spread_rules_rulebook.specs.declared.instrument.Instrument.TheVariants.{Outright, Spread}
use Rattle.spread_rules.specs.declared.fill.Fill.{Fill}
use Rattle.spread_rules.specs.declared.event.Ticket.{Ticket}
use Rattle.spread_rules_rulebook.specs.Rulebook.{Rules, symbol_of}
use Rattle.spread_rules.specs.Legs.{legs_of}
use Rattle.spread_report_fields.specs.declared.codes.TheConstants.{EXEC_TRANS_TYPE_NEW, SINGLE_SECURITY, INDIVIDUAL_LEG, MULTI_LEG_SECURITY}
use Rattle.spread_report_fields.specs.Codes.{side_code}
use Rattle.spread_report_fields.specs.Fields.{optional_field}
use Rattle.spread_report_outbound.specs.Steps.{OutgoingStep, numbered}

-- An execution report: the session that it goes to, and what it tells. A report on a fill tells of the whole fill, or of
-- one leg of it.
pub record ExecutionReport : Type 0 where
  pub to : ℕ
  pub order_id : ℕ
  pub cl_ord_id : List ℕ
  pub orig_cl_ord_id : Option (List ℕ)
  pub ord_status : ℕ
  pub ord_rej_reason : Option ℕ
  pub symbol : List ℕ
  pub side : Side
  pub order_qty : ℕ
  pub traded : Option (record { multi_leg : ℕ; fill : Fill })
  pub leaves_qty : ℕ
  pub cum_qty : ℕ

-- The message that it is, with its number among the reports of the entry of that place: both are its ExecID. OrigClOrdID
-- stands in a report on a cancel or a replace alone, OrdRejReason in a rejected order's alone, and LastShares, LastPx and
-- MultiLegReportingType in a fill's alone.
abbrev pub report_step : ℕ → ℕ × ExecutionReport → OutgoingStep
report_step place (number, r) =
    numbered msg_types.EXECUTION_REPORT
    (field tags.ORDER_ID (Number r.order_id)
    ∷ field tags.CL_ORD_ID (Text r.cl_ord_id)
    ∷ optional_field tags.ORIG_CL_ORD_ID r.orig_cl_ord_id Text
    ++ field tags.EXEC_ID (Pair place number)
    ∷ field tags.EXEC_TRANS_TYPE (Number EXEC_TRANS_TYPE_NEW)
    ∷ field tags.EXEC_TYPE (Number r.ord_status)
    ∷ field tags.ORD_STATUS (Number r.ord_status)
    ∷ optional_field tags.ORD_REJ_REASON r.ord_rej_reason Number
    ++ field tags.SYMBOL (Text r.symbol)
    ∷ field tags.SIDE (Number (side_code r.side))
    ∷ field tags.ORDER_QTY (Number r.order_qty)
    ∷ optional_field tags.LAST_SHARES r.traded (λ t. Number t.fill.quantity)
    ++ optional_field tags.LAST_PX r.traded (λ t. Price t.fill.price)
    ++ field tags.LEAVES_QTY (Number r.leaves_qty)
    ∷ field tags.CUM_QTY (Number r.cum_qty)
    ∷ field tags.AVG_PX (Number 0)
    ∷ optional_field tags.MULTI_LEG_REPORTING_TYPE r.traded (λ t. Number t.multi_leg))

-- A report to that session on the order of that place, with its id, symbol, side, quantity and status. Nothing of it is
-- filled, and nothing is left.
abbrev pub plain_report : ℕ → ℕ → List ℕ → List ℕ → Side → ℕ → ℕ → ExecutionReport
plain_report to order_id cl_ord_id symbol side order_qty ord_status = record {
  to = to;
  order_id = order_id;
  cl_ord_id = cl_ord_id;
  orig_cl_ord_id = None;
  ord_status = ord_status;
  ord_rej_reason = None;
  symbol = symbol;
  side = side;
  order_qty = order_qty;
  traded = None;
  leaves_qty = 0;
  cum_qty = 0;
}

-- a report on the new order of that place
abbrev pub order_report : ℕ → ℕ → Ticket → ℕ → ExecutionReport
order_report session place t ord_status =
    plain_report session place t.id t.symbol t.side t.quantity ord_status

-- a new order is accepted
abbrev pub new_report : ℕ → ℕ → Ticket → ExecutionReport
new_report session place t =
    record (order_report session place t status.NEW) { leaves_qty = t.quantity }

-- a report on a resting order that a request with this id cancels or replaces, naming it by its original id
abbrev pub amended_report : Rules → ℕ → List ℕ → List ℕ → Order → ℕ → ExecutionReport
amended_report rules session id original o ord_status =
    let symbol = symbol_of rules o.instrument in
    record (plain_report session o.place id symbol o.side o.quantity ord_status) {
      orig_cl_ord_id = Some original;
      cum_qty = o.quantity - o.leaves;
    }

-- a report on a fill, or on a leg of one, to the session of the filled order
abbrev pub fill_report : Rules → ℕ → Fill → ExecutionReport
fill_report rules multi_leg f =
    let symbol = symbol_of rules f.instrument in
    let ord_status = if f.leaves == 0 then status.FILLED else status.PARTIALLY_FILLED in
    record (plain_report f.session f.order f.id symbol f.side f.total ord_status) {
      traded = Some (record { multi_leg = multi_leg; fill = f });
      leaves_qty = f.leaves;
      cum_qty = f.total - f.leaves;
    }

-- the reports on a fill of that instrument: one of an outright; of a spread one of the spread, then one of each leg
abbrev pub fill_reports : Rules → Fill → Instrument → List ExecutionReport
fill_reports rules f (Outright m) = fill_report rules SINGLE_SECURITY f ∷ []
fill_reports rules f (Spread i j) =
    fill_report rules MULTI_LEG_SECURITY f
    ∷ map (fill_report rules INDIVIDUAL_LEG) (legs_of (Spread i j) f)

abbrev pub fills_reports : Rules → List Fill → List ExecutionReport
fills_reports rules fills = flat_map (λ f. fill_reports rules f f.instrument) fills
