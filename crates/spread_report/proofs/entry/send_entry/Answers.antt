use Rattle.spread_report.proofs.entry.send_entry.Goals as goal

-- what a cancel sends is the same whatever the fills
pub returns-in-Cancel : goal.returns-in-Cancel
returns-in-Cancel g c = rw c.in-Cancel.is (c.cancel_entry.ensures c.args.applied.now.fills.now)
