use Rattle.std.proofs.Common.{ap}
use Rattle.spread_journal_lines.specs.JournalText.{journal_text}
use Rattle.text_ring.specs.Ends.{text_taken}
use Rattle.text_messages.proofs.BlocksInTurn.{on_err}
use Rattle.exchange_print.proofs.TextInTurn.{both_written}
use Rattle.exchange_print.proofs.printing.write_text.Goals as goal

pub returns : goal.returns
returns g c =
    let told = λ (k : _). g.K.Sink.written k in
    let first = c.write_journal_lines-so_far in
    let last = c.write_to-result in
    record {
      writes = both_written first.result last.result (told c.args.writer.sink) (told first.new.sink)
          (told last.new.sink)
          (g.K.Sink.has_failed first.new.sink) (g.K.Sink.has_failed last.new.sink)
          (journal_text c.args.journal.now) (text_taken last.new.self) first.ensures.writes last.ensures.writes
          (on_err first.result (λ kept. (kept.0, ap told kept.1)) last.ensures.kept);
      read = last.ensures.read;
      ring = last.ensures.ring;
    }
