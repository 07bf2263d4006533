use Rattle.std.proofs.Common.{take, ◌∙◌}
use Rattle.std.proofs.lemmas.Result.{IfOk-at_ok}
use Rattle.apply_market.proofs.EntryByEntry.{applied_through}
use Rattle.tests_days.proofs.host.applied.apply_all.Goals as goal

pub loop-entry-preserved : goal.loop-entry-preserved
loop-entry-preserved g c =
    let journal = c.args.journal.now in
    let n = c.loop-entry.entry-index in
    let e = c.entry-item.result in
    let next = IfOk-at_ok _ c.expect.ensures c.apply.ensures.next (take n journal) c.loop-entry.invariant.0 in (
      applied_through journal n e c.expect.result c.apply.new.self c.loop-entry-test.true c.entry-item.is next,
      c.apply.ensures.rules ∙ c.loop-entry.invariant.1,
    )
