use Rattle.text_messages.specs.Messages.{texts_of}
use Rattle.text_messages.specs.code.Messages.{outgoing_lines_from}
use Rattle.text_messages.proofs.BlocksInTurn.{front_of_more, write_stops, none_on_err}
use Rattle.text_day.specs.code.LineParts.{totals_lines}
use Rattle.text_day.proofs.PartsInTurn.{then_writes}
use Rattle.text_day.proofs.day_text.write_behind_fills.Goals as goal

pub returns-in_err-write_sessions : goal.returns-in_err-write_sessions
returns-in_err-write_sessions g c =
    let told = λ (k : _). g.K.TakesBlocks.written k in
    record {
      writes = write_stops _ c.from_residual.result c.from_residual.ensures.1
          c.in_err-write_sessions.ensures.writes.failed
          (front_of_more (told c.args.sink.now) (told c.write_sessions.new.sink)
          (outgoing_lines_from 0 (texts_of c.args.out.now)) (totals_lines c.args.rulebook.now c.args.totals.now)
          c.in_err-write_sessions.ensures.writes.front);
      emptied = none_on_err _ _ c.from_residual.result c.from_residual.ensures.1;
    }

pub returns : goal.returns
returns g c =
    let told = λ (k : _). g.K.TakesBlocks.written k in
    record {
      writes = then_writes c.write_months.result (told c.args.sink.now) (told c.write_sessions.new.sink)
          (told c.write_months.new.sink) (g.K.TakesBlocks.has_failed c.write_months.new.sink)
          (outgoing_lines_from 0 (texts_of c.args.out.now)) (totals_lines c.args.rulebook.now c.args.totals.now)
          c.in_ok-write_sessions.ensures.writes.all c.write_months.ensures.writes;
      emptied = c.write_months.ensures.emptied;
    }
