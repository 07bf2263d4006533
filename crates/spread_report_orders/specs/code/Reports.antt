-- The reports that are written, one by one, and each with the session that it goes to.
-- Words of the code alone.
use Rattle.std.specs.Prelude.{ℕ, ℤ, ◌+◌, ◌-◌, ◌==◌, if◌then◌else◌, List, [], ◌∷◌, map, Some}
use Rattle.std.specs.List.{enumerate_from}
use Rattle.spread_rules.specs.declared.codes.ord_status.TheConstants as code
use Rattle.spread_rules.specs.declared.order.Order.{Order}
use Rattle.spread_rules.specs.declared.order.Side.{Side}
use Rattle.spread_rules_rulebook.specs.declared.instrument.Instrument.{Instrument}
use Rattle.spread_rules_rulebook.specs.declared.instrument.Instrument.TheVariants.{Outright, Spread}
use Rattle.spread_rules.specs.declared.fill.Fill.{Fill}
use Rattle.spread_rules.specs.declared.event.Ticket.{Ticket}
use Rattle.spread_rules_rulebook.specs.Rulebook.{Rules, symbol_of}
use Rattle.spread_rules.specs.Legs.{other_side}
use Rattle.spread_report_fields.specs.declared.codes.MultiLegReportingType.{MultiLegReportingType}
use Rattle.spread_report_fields.specs.declared.codes.MultiLegReportingType.TheVariants.{IndividualLeg}
use Rattle.spread_report_fields.specs.code.Codes.{multi_leg_code}
use Rattle.spread_report_fields.specs.declared.codes.OrdStatus.{OrdStatus}
use Rattle.spread_report_fields.specs.declared.codes.OrdStatus.TheVariants as status
use Rattle.spread_report_orders.specs.ExecutionReports.{ExecutionReport, report_step, plain_report, order_report}
use Rattle.spread_report_outbound.specs.code.Addressed.{AddressedStep}

-- a report of the entry of that place, with its number among the entry's reports
abbrev pub report : ℕ → ℕ → ExecutionReport → AddressedStep
report place number r = record { to = r.to; step = report_step place (number, r) }

-- such reports in order, the first with this number
abbrev pub reports_from : ℕ → ℕ → List ExecutionReport → List AddressedStep
reports_from place number rs =
    map (λ (r : ℕ × ExecutionReport). report place r.0 r.1) (enumerate_from number rs)

-- a new order is rejected
abbrev pub rejected_report : ℕ → ℕ → Ticket → ℕ → ExecutionReport
rejected_report session place t reason =
    record (order_report session place t code.REJECTED) { ord_rej_reason = Some reason }

-- what is left of an immediate order is cancelled
abbrev pub ended_report : ℕ → ℕ → Ticket → ℕ → ExecutionReport
ended_report session place t left =
    record (order_report session place t code.CANCELED) { cum_qty = t.quantity - left }

-- a resting order, with this symbol, is cancelled by a cancel request with this id
abbrev pub cancelled_report : List ℕ → ℕ → List ℕ → List ℕ → Order → ExecutionReport
cancelled_report symbol session id original o =
    record (plain_report session o.place id symbol o.side o.quantity code.CANCELED) {
      orig_cl_ord_id = Some original;
      cum_qty = o.quantity - o.leaves;
    }

-- a resting order, with this symbol, became this one by a replace request with this id
abbrev pub replaced_report : List ℕ → ℕ → List ℕ → List ℕ → Order → ExecutionReport
replaced_report symbol session id original o =
    record (plain_report session o.place id symbol o.side o.quantity code.REPLACED) {
      orig_cl_ord_id = Some original;
      leaves_qty = o.leaves;
      cum_qty = o.quantity - o.leaves;
    }

-- a fill leaves an order filled, or partially filled
abbrev pub fill_status : ℕ → OrdStatus
fill_status leaves = if leaves == 0 then status.Filled else status.PartiallyFilled

-- one report of a fill: the symbol, side and price of the part that it tells
abbrev pub part_report : Fill → List ℕ → Side → ℤ → MultiLegReportingType → ExecutionReport
part_report f symbol side price multi_leg =
    let ord_status = if f.leaves == 0 then code.FILLED else code.PARTIALLY_FILLED in
    record (plain_report f.session f.order f.id symbol side f.total ord_status) {
      traded = Some (record { multi_leg = multi_leg_code multi_leg; fill = record f { price = price } });
      leaves_qty = f.leaves;
      cum_qty = f.total - f.leaves;
    }

-- the reports of a spread's legs: the near month on the order's side, the far month on the other
abbrev pub leg_reports : ℕ → ℕ → Rules → Fill → List ExecutionReport
leg_reports i j rules f =
    part_report f (symbol_of rules (Outright i)) f.side f.near IndividualLeg
    ∷ part_report f (symbol_of rules (Outright j)) (other_side f.side) f.far IndividualLeg
    ∷ []

-- how many reports a fill has
abbrev pub report_count : Instrument → ℕ
report_count (Outright m) = 1
report_count (Spread i j) = 3

-- how many reports fills have
abbrev pub reports_of : List Fill → ℕ
reports_of [] = 0
reports_of (f ∷ fs) = report_count f.instrument + reports_of fs
