use Rattle.std.proofs.Common.{◌∙◌}
use Rattle.gate_link_sessions.proofs.PartOfASession.{row_past}
use Rattle.live_sessions.specs.code.Streams.{whole_stream}
use Rattle.spread_host.proofs.DayOfParts.{DayHolds, day_holds}
use Rattle.spread_host.proofs.LawfulJournals.{has_fills}
use Rattle.spread_host.proofs.SessionsWithoutEntries.{silent}
use Rattle.spread_host.proofs.from_sessions.run_day.Goals as goal
use Rattle.spread_host.proofs.from_sessions.run_day.Goals.{In_ok-journal}

holds : (g : _) (c : In_ok-journal g) → DayHolds c.args.rulebook.now c.args.stamp c.in_ok-journal.field-0.journal.items
    c.in_ok-journal.field-0.applied.fills.items c.in_ok-journal.field-0.applied.out.items
holds g c =
    let day = c.in_ok-journal.field-0 in
    let e = c.in_ok-journal.ensures in
    let rules = c.args.rulebook.now in
    day_holds rules c.args.stamp day.journal.items day.applied.fills.items day.applied.out.items c.months.ensures.lawful
    e.lawful
    (c.ranges-2.ensures.fills rules day.journal.items c.months.ensures.lawful e.lawful.fits) e.day.fills e.day.lists
    e.day.out e.day.whole

pub returns-clause-fills : goal.returns-clause-fills
returns-clause-fills g c =
    let day = c.in_ok-journal.field-0 in
    has_fills c.args.rulebook.now day.journal.items day.applied.fills.items c.in_ok-journal.ensures.day.fills

pub returns-clause-outgoing : goal.returns-clause-outgoing
returns-clause-outgoing g c = (holds g c).outgoing

pub returns-clause-bought_is_sold : goal.returns-clause-bought_is_sold
returns-clause-bought_is_sold g c = (holds g c).bought_is_sold

pub returns-clause-paid_is_received : goal.returns-clause-paid_is_received
returns-clause-paid_is_received g c = (holds g c).paid_is_received

pub returns-clause-quiet : goal.returns-clause-quiet
returns-clause-quiet g c = (holds g c).quiet

pub returns-clause-day : goal.returns-clause-day
returns-clause-day g c = (holds g c).day

-- a session without a stream has no entry, and is sent nothing
pub returns-clause-no_stream : goal.returns-clause-no_stream
returns-clause-no_stream g c s low past =
    let e = c.in_ok-journal.ensures in
    e.day.out s low ∙ silent c.args.rulebook.now c.args.stamp c.in_ok-journal.field-0.journal.items s
    (e.day.parts s ∙ row_past whole_stream c.args.streams.items s past)
