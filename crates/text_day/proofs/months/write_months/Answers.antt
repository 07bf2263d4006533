use Rattle.text_day.specs.code.LineParts.{totals_lines}
use Rattle.text_messages.proofs.BlocksInTurn.{put_and_given}
use Rattle.text_day.proofs.months.write_months.Goals as goal

pub returns : goal.returns
returns g c =
    let told = λ (k : _). g.K.TakesBlocks.written k in
    record {
      writes = put_and_given c.take.result (told c.args.sink.now) (told c.put_all.new.sink) (told c.take.new.self)
          (g.K.TakesBlocks.has_failed c.take.new.self) c.args.block.now.items c.put_all.new.block.items
          (totals_lines c.args.rulebook.now c.args.totals.now) c.requires.empty c.in_ok-put_all.ensures.puts.put
          c.take.ensures.writes;
      emptied = c.take.ensures.items;
    }
