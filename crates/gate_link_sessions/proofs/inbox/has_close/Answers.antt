use Rattle.std.proofs.Common.{sym, ap}
use Rattle.spread_rules.specs.Journal.{is_close}
use Rattle.gate_link_sessions.proofs.inboxes.OneClose.{any_entry}
use Rattle.gate_link_sessions.proofs.inbox.has_close.Goals as goal

pub returns-in-Close : goal.returns-in-Close
returns-in-Close c =
    sym (any_entry c.args.entries.now c.loop-entry.entry-index c.entry-item.result c.loop-entry-test.true
    c.entry-item.is (ap is_close c.in-Close.is))
