use Rattle.std.proofs.Common.{Some}
use Rattle.spread_report_outbound.proofs.SessionsOf.{with_comp_ids}
use Rattle.spread_report_outbound.proofs.outbox.Outbox.log_on.Goals as goal

pub returns-clause-logged_on : goal.returns-clause-logged_on
returns-clause-logged_on g c = λ s below.
    let i = c.outbound.inside in
    rw (← c.outbound.view_is) (with_comp_ids i.numbers i.comp_ids c.outbound.invariant.numbers
    c.outbound.invariant.comp_ids
    c.args.session (Some c.args.comp_ids) s c.requires)
