use Rattle.fix_session_judging.specs.Streams.{whole}
use Rattle.spread_rules.specs.Journal.{restricted}
use Rattle.gate_link.specs.Schedules.{no_events}
use Rattle.gate_link.proofs.links.InSentOrder.{in_order, at_first, prefix_whole}
use Rattle.gate_link.proofs.laws.schedule.Goals as goal

pub returns-clause-order : goal.returns-clause-order
returns-clause-order c stream moves b leads = in_order stream moves no_events b leads (at_first stream)

pub returns-clause-closed : goal.returns-clause-closed
returns-clause-closed c stream moves b n s leads closed below =
    let order = in_order stream moves no_events b leads (at_first stream) s in
    let whole_ = closed s below in (
      prefix_whole (restricted s b.journal) (b.sent s) order.0 whole_.1,
      prefix_whole (b.sent s) (whole (stream s)) order.1 whole_.0,
    )
