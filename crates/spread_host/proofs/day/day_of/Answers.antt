use Rattle.std.proofs.Common.{ap, ◌∙◌, subst, List}
use Rattle.spread_rules.specs.declared.event.Entry.{Entry}
use Rattle.spread_rules.specs.code.Meaning.{meaning_of_journal}
use Rattle.spread_report_outbound.specs.Rows.{IsRow}
use Rattle.spread_report.specs.Messages.{messages_to}
use Rattle.spread_report_outbound.specs.Sessions.{bytes_of}
use Rattle.apply_desk.specs.Applied.{outgoing_bytes, applied_entries}
use Rattle.spread_host.proofs.DayOfParts.{DayHolds, day_holds}
use Rattle.spread_host.proofs.LawfulJournals.{has_fills}
use Rattle.spread_host.proofs.day.day_of.Goals as goal
use Rattle.spread_host.proofs.day.day_of.Goals.{In_ok-applied}

holds : (g : _) (c : In_ok-applied g) → DayHolds c.args.rulebook.now c.args.stamp c.args.journal.items
    c.in_ok-applied.applied.fills.items c.in_ok-applied.applied.out.items
holds g c =
    let rules = c.args.rulebook.now in
    let stamp = c.args.stamp in
    let journal = c.args.journal.items in
    let same = c.deref.ensures.value in
    let made = c.in_ok-applied.ensures in
    let out = c.in_ok-applied.applied.out.items in
    day_holds rules stamp journal c.in_ok-applied.applied.fills.items out c.months.ensures.lawful c.requires
    (c.ranges-2.ensures.fills rules journal c.months.ensures.lawful c.requires.fits)
    (made.fills ∙ ap (λ (es : List Entry). (meaning_of_journal rules es).fills) same) made.lists
    (λ s h. made.out s h ∙ ap (λ (es : List Entry). outgoing_bytes rules stamp es s) same)
    (λ s h. subst (λ (es : List Entry). IsRow (messages_to rules stamp (applied_entries rules es) s) (bytes_of out s))
    same (made.whole s h))

pub returns-clause-fills : goal.returns-clause-fills
returns-clause-fills g c =
    has_fills c.args.rulebook.now c.args.journal.items c.in_ok-applied.applied.fills.items
    (c.in_ok-applied.ensures.fills ∙ ap (λ (es : List Entry). (meaning_of_journal c.args.rulebook.now es).fills)
    c.deref.ensures.value)

pub returns-clause-outgoing : goal.returns-clause-outgoing
returns-clause-outgoing g c = (holds g c).outgoing

pub returns-clause-bought_is_sold : goal.returns-clause-bought_is_sold
returns-clause-bought_is_sold g c = (holds g c).bought_is_sold

pub returns-clause-paid_is_received : goal.returns-clause-paid_is_received
returns-clause-paid_is_received g c = (holds g c).paid_is_received

pub returns-clause-quiet : goal.returns-clause-quiet
returns-clause-quiet g c = (holds g c).quiet

pub returns-clause-day : goal.returns-clause-day
returns-clause-day g c = (holds g c).day
