use Rattle.std.proofs.Common.{List, ℕ, map, ap}
use Rattle.text_messages.specs.Messages.{texts_of}
use Rattle.text_messages.specs.code.Messages.{shown_byte, outgoing_lines_from}
use Rattle.text_messages.proofs.BlocksInTurn.{put_and_given}
use Rattle.text_messages.proofs.messages.write_sessions.Goals as goal

pub returns-clause-writes : goal.returns-clause-writes
returns-clause-writes g c =
    let told = λ (k : _). g.K.TakesBlocks.written k in
    let shown = λ (t : List ℕ). map shown_byte t in
    put_and_given c.give_shown.result (told c.args.sink.now) (told c.put_sessions.new.sink) (told c.give_shown.new.sink)
    (g.K.TakesBlocks.has_failed c.give_shown.new.sink) (shown c.args.block.now.items)
    (shown c.put_sessions.new.block.items)
    (outgoing_lines_from 0 (texts_of c.args.lists.now)) (ap shown c.requires.empty)
    c.in_ok-put_sessions.ensures.puts.put c.give_shown.ensures.writes
