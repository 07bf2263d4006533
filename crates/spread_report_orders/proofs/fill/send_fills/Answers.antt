use Rattle.std.proofs.Common.{ap, ℕ, arith}
use Rattle.std.proofs.lemmas.Result.{err_from_is_err_and}
use Rattle.spread_report_orders.specs.code.Reports.{report_count}
use Rattle.spread_rules.specs.declared.fill.Fill.{Fill}
use Rattle.spread_report_orders.proofs.OneFillMore.{fills_more, fills_stop, reports_of_more}
use Rattle.spread_report_orders.proofs.fill.send_fills.Goals as goal

pub loop-one-preserved : goal.loop-one-preserved
loop-one-preserved g c = record {
  sent = fills_more c.args.outbox.now c.loop-one.outbox c.send_fill.new.outbox c.args.rules.now c.args.place 2
      c.loop-one.index c.loop-one.one-index c.args.fills.now
      c.one-item.result c.one-item.result
      tt c.loop-one-test.true c.one-item.is c.loop-one.invariant.index c.loop-one.invariant.sent
      c.in_ok-send_fill.ensures;
  index =
      let same = ap (λ (f : Fill). report_count f.instrument) c.one-item.is in
      omega (
        arith,
        c.loop-one.invariant.index,
        reports_of_more c.args.fills.now c.loop-one.one-index c.one-item.result
            c.loop-one-test.true,
        c.report_count-index.ensures.value,
        same,
      );
  bound = omega (arith, c.loop-one.invariant.bound, c.report_count-index.ensures.most);
}

pub returns-in_err-send_fill-clause-sent : goal.returns-in_err-send_fill-clause-sent
returns-in_err-send_fill-clause-sent g c =
    let p = err_from_is_err_and c.from_residual.result c.from_residual.ensures.1 in
    rw (p.1, p.2)
    (fills_stop c.args.outbox.now c.loop-one.outbox c.send_fill.new.outbox c.args.rules.now c.args.place 2
    c.loop-one.index c.loop-one.one-index c.args.fills.now
    c.one-item.result c.one-item.result
    (Unit {0}) ℕ c.in_err-send_fill.field-0.0 c.loop-one-test.true c.one-item.is c.loop-one.invariant.index
    c.loop-one.invariant.sent c.in_err-send_fill.ensures)
