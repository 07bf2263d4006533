use Rattle.spread_journal_lines.specs.JournalText.{journal_text}
use Rattle.text_day.specs.code.Months.{month_lines}
use Rattle.text_fills.specs.code.Fills.{fill_lines}
use Rattle.text_messages.specs.Messages.{texts_of}
use Rattle.text_messages.specs.code.Messages.{outgoing_lines_from}
use Rattle.exchange_print.proofs.TextInTurn.{failed_front, part_by_part}
use Rattle.exchange_print.proofs.printing.print_day.Goals as goal

pub returns-in-Ok-clause-write : goal.returns-in-Ok-clause-write
returns-in-Ok-clause-write g c is =
    let rules = c.args.rulebook.now in
    let day = c.args.day in
    let p = c.in-Ok.printed in
    let made = c.in-Ok.ensures in
    failed_front p.result _ (g.K.Sink.written c.args.sink) (g.K.Sink.written p.sink) (g.K.Sink.has_failed p.sink) _ _
    (part_by_part (journal_text day.journal.items) (fill_lines rules day.fills.items)
    (outgoing_lines_from 0 (texts_of day.out.items)) (month_lines rules day.fills.items))
    made.1.0 is
