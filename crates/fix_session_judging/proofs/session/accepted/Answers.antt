use Rattle.std.proofs.Common.{arith}
use Rattle.fix_session_judging.proofs.events.DueAfterOrders.{new_due}
use Rattle.fix_session_judging.proofs.session.accepted.Goals as goal

pub returns-in-68-clause-due : goal.returns-in-68-clause-due
returns-in-68-clause-due c =
    new_due c.kind.result.now c.args.message.now.frame.now c.args.number c.kind.ensures c.in-68.len_at_least
    c.in-68.len_below (omega arith)
