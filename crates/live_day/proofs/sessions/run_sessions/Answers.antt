use Rattle.live_day.proofs.LawfulJournal.{lawful_result}
use Rattle.live_day.proofs.sessions.run_sessions.Goals as goal

pub returns-clause-lawful : goal.returns-clause-lawful
returns-clause-lawful g c =
    let e = c.scoped.ensures.1 in
    let day = c.args.rules.now in
    lawful_result c.scoped.result day.rulebook.now day.stamp c.args.streams.items c.args.caps.ring c.args.caps.journal
    e.1.1.0 e.0 e.1.0
