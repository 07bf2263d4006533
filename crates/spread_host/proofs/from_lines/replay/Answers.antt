use Rattle.std.proofs.Common.{ℕ, List, sym, subst, arith}
use Rattle.std.specs.Prelude.{IsErrOf}
use Rattle.std.specs.Io.KnownBytes.{Appends}
use Rattle.std.proofs.lemmas.Option.{IfSome_then}
use Rattle.std.proofs.lemmas.Result.{err_from_is_err_and}
use Rattle.spread_rules_ends.specs.Ends.{AppendsPrefix}
use Rattle.spread_rules.specs.declared.event.Entry.{Entry}
use Rattle.intake_lines.specs.Reading.{IsJournalOf}
use Rattle.intake_lines.specs.code.Reading.{HasParts}
use Rattle.spread_host.specs.Days.{IsPartOut}
use Rattle.spread_host.specs.Headline.{IsJournalOfText}
use Rattle.spread_host_faults.specs.declared.fault.HostFault.TheVariants as faults
use Rattle.spread_host.proofs.LawfulJournals.{text_is, if_some_both}
use Rattle.spread_host.proofs.SixteenTexts.{sessions_sent}
use Rattle.spread_host.proofs.from_lines.replay.Goals as goal

pub day_of-requires : goal.day_of-requires
day_of-requires g c = c.in_ok-journal.ensures.lawful

pub write_day-requires-clause-lists : goal.write_day-requires-clause-lists
write_day-requires-clause-lists g c =
    let day = c.in_ok-day.day in
    let each = sessions_sent c.args.rulebook.now c.args.stamp day.journal.items day.fills.items day.out.items
    c.in_ok-day.ensures.outgoing c.in_ok-day.ensures.day in
    let count = each.lists in
    omega (arith, count)

pub write_day-requires-clause-rows : goal.write_day-requires-clause-rows
write_day-requires-clause-rows g c =
    let day = c.in_ok-day.day in
    let each = sessions_sent c.args.rulebook.now c.args.stamp day.journal.items day.fills.items day.out.items
    c.in_ok-day.ensures.outgoing c.in_ok-day.ensures.day in
    each.rows

pub returns-clause-journal : goal.returns-clause-journal
returns-clause-journal g c =
    let journal = c.in_ok-journal.journal.items in
    if_some_both (λ (input : List ℕ). IsJournalOf input journal) (λ (input : List ℕ). HasParts input journal)
    (λ (input : List ℕ). IsJournalOfText input c.in_ok-day.day.journal.items)
    (λ input entries parts. subst (λ (es : List Entry). IsJournalOfText input es) (sym c.in_ok-day.ensures.journal)
    record { entries = entries; parts = parts })
    (g.S.Source.left c.args.source.now) c.in_ok-journal.ensures.journal c.in_ok-journal.ensures.parts

pub returns-clause-written : goal.returns-clause-written
returns-clause-written g c =
    let told = g.K.Sink.written in
    let text = text_is c.args.journal_only c.args.rulebook.now c.args.stamp c.in_ok-day.day.journal.items _ _
    c.in_ok-day.ensures.fills c.in_ok-day.ensures.outgoing in (
      c.in_ok-write_day.ensures.not_failed,
      subst (λ (t : List ℕ). Appends (told c.args.sink.now)
          (told c.write_day.new.sink) t) text c.in_ok-write_day.ensures.ok,
    )

pub returns-in_err-write_day-clause-write : goal.returns-in_err-write_day-clause-write
returns-in_err-write_day-clause-write g c e =
    let told = g.K.Sink.written in
    let gives = err_from_is_err_and c.from_residual-in_err-write_day.result c.from_residual-in_err-write_day.ensures.1
    in
    let was = c.in_err-write_day.was in
    let same = gives.1 in
    let fault = gives.2 in
    let wrote : IsErrOf c.write_day.result faults.Write = cc in
    let w = c.write_day.ensures.write wrote in
    let rules = c.args.rulebook.now in
    let journal = c.in_ok-day.day.journal.items in
    let text = text_is c.args.journal_only rules c.args.stamp journal _ _ c.in_ok-day.ensures.fills
    c.in_ok-day.ensures.outgoing in (
      w.0,
      IfSome_then (g.S.Source.left c.args.source.now) {P =
          λ (input : List ℕ). IsJournalOf input c.in_ok-journal.journal.items}
          {Q = λ (input : List ℕ). IsPartOut c.args.journal_only rules c.args.stamp input (told c.args.sink.now)
          (told c.write_day.new.sink)} c.in_ok-journal.ensures.journal
          (λ input entries. record {
            journal = journal;
            is_of = subst (λ (es : List Entry). IsJournalOf input es) (sym c.in_ok-day.ensures.journal) entries;
            part = subst (λ (t : List ℕ). AppendsPrefix (told c.args.sink.now) (told c.write_day.new.sink) t) text w.1;
          }),
    )

pub returns-clause-byte_ids : goal.returns-clause-byte_ids
returns-clause-byte_ids g c = c.in_ok-write_day.ensures.bytes
