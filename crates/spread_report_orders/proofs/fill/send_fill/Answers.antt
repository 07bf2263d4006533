use Rattle.std.proofs.Common.{[], ◌∷◌, ◌+◌, ap, sym}
use Rattle.std.specs.Int.{w64}
use Rattle.std.proofs.lemmas.Int.{to_z-of_z}
use Rattle.spread_rules_rulebook.specs.declared.instrument.Instrument.{Instrument}
use Rattle.spread_rules_rulebook.specs.declared.instrument.Instrument.TheVariants.{Outright, Spread}
use Rattle.spread_report_orders.specs.ExecutionReports.{fill_reports}
use Rattle.spread_report_orders.specs.code.Reports.{report, reports_from, part_report, leg_reports}
use Rattle.spread_report_fields.specs.declared.codes.MultiLegReportingType.TheVariants.{MultiLegSecurity}
use Rattle.spread_rules_rulebook.specs.Rulebook.{symbol_of}
use Rattle.spread_report_outbound.proofs.MoreMessages.{sends_after, sends_same}
use Rattle.spread_report_orders.proofs.fill.send_fill.Goals as goal

pub returns-in-Outright : goal.returns-in-Outright
returns-in-Outright g c =
    let f = c.args.fill.now in
    let reports = λ (k : Instrument). reports_from c.args.exec_id.place c.args.exec_id.index
    (fill_reports c.args.rules.now f k) in
    let w = rw (c.symbol_of-symbol.ensures, c.price_of.ensures.value, to_z-of_z w64 f.price c.price_of.ensures.fits) at
    c.send_part.ensures in
    sends_same c.args.outbox.now c.send_part.new.outbox
    (reports (Outright c.in-Outright.field-0)) (reports f.instrument) c.send_part.result
    (ap reports (sym c.in-Outright.is)) w

pub returns-in_ok-send_part-in-Spread : goal.returns-in_ok-send_part-in-Spread
returns-in_ok-send_part-in-Spread g c =
    let f = c.args.fill.now in
    let id = c.args.exec_id in
    let reports = λ (k : Instrument). reports_from id.place id.index (fill_reports c.args.rules.now f k) in
    let one = rw (
      c.symbol_of-symbol.ensures,
      c.price_of-in-Spread.ensures.value,
      to_z-of_z w64 f.price c.price_of-in-Spread.ensures.fits,
    ) at c.in_ok-send_part-in-Spread.ensures in
    let two = rw c.next.ensures at c.send_legs.ensures in
    let all = sends_after c.args.outbox.now c.send_part-in-Spread.new.outbox c.send_legs.new.outbox
    (report id.place id.index (part_report f (symbol_of c.args.rules.now f.instrument) f.side f.price MultiLegSecurity)
    ∷ [])
    (reports_from id.place (id.index + 1) (leg_reports c.in-Spread.near c.in-Spread.far c.args.rules.now f)) tt
    c.send_legs.result one two in
    sends_same c.args.outbox.now c.send_legs.new.outbox
    (reports (Spread c.in-Spread.near c.in-Spread.far)) (reports f.instrument) c.send_legs.result
    (ap reports (sym c.in-Spread.is)) all
