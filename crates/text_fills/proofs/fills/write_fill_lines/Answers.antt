use Rattle.text_fills.specs.code.Fills.{fill_lines}
use Rattle.text_messages.proofs.BlocksInTurn.{put_and_given}
use Rattle.text_fills.proofs.fills.write_fill_lines.Goals as goal

pub returns-clause-writes : goal.returns-clause-writes
returns-clause-writes g c =
    let told = λ (k : _). g.K.TakesBlocks.written k in
    put_and_given c.take.result (told c.args.sink.now) (told c.put_all.new.sink) (told c.take.new.self)
    (g.K.TakesBlocks.has_failed c.take.new.self) c.args.block.now.items c.put_all.new.block.items
    (fill_lines c.args.rulebook.now c.args.fills.now) c.requires.empty c.in_ok-put_all.ensures.puts.put
    c.take.ensures.writes
