use Rattle.std.proofs.Common.{◌≡◌, ◌++◌, ◌∷◌, [], List, map, subst, sym, ◌∙◌, append_assoc}
use Rattle.text_messages.specs.Messages.{outgoing_line}
use Rattle.text_messages.specs.code.Messages.{shown_byte}
use Rattle.text_messages.specs.code.Blocks.{IsPut}
use Rattle.text_messages.proofs.BlocksInTurn.{put_none, put_after, put_fails, on_err, on_ok, put_stops}
use Rattle.text_messages.proofs.LinesInParts.{line_of_three}
use Rattle.text_messages.proofs.messages.put_long_message.Goals as goal

pub returns-in_err-put_part-clause-puts : goal.returns-in_err-put_part-clause-puts
returns-in_err-put_part-clause-puts g c =
    let told = λ (k : _). g.K.TakesBlocks.written k in
    let old = map shown_byte c.args.block.now.items in
    let line = outgoing_line c.args.session c.args.message.now in
    let line_start = map shown_byte c.line_start.result.now in
    let rest = map shown_byte c.args.message.now ++ 10 ∷ [] in
    let parts : line ≡ line_start ++ rest = line_of_three c.args.session c.args.message.now line_start
    (c.line_start.ensures.shown ∙ c.line_start.ensures.text) in
    put_stops _ c.from_residual.result c.from_residual.ensures.1 c.in_err-put_part.ensures.puts.failed
    (put_fails (told c.args.sink.now) (told c.args.sink.now) (told c.put_part.new.sink) old old [] line_start rest line
    (put_none (told c.args.sink.now) old) c.in_err-put_part.ensures.puts.front parts)

pub returns-in_err-put_part-2-clause-puts : goal.returns-in_err-put_part-2-clause-puts
returns-in_err-put_part-2-clause-puts g c =
    let told = λ (k : _). g.K.TakesBlocks.written k in
    let old = map shown_byte c.args.block.now.items in
    let line = outgoing_line c.args.session c.args.message.now in
    let line_start = map shown_byte c.line_start.result.now in
    let message = map shown_byte c.args.message.now in
    let parts : line ≡ line_start ++ (message ++ 10 ∷ []) = line_of_three c.args.session c.args.message.now line_start
    (c.line_start.ensures.shown ∙ c.line_start.ensures.text) in
    let put_1 : IsPut (told c.args.sink.now) (told c.put_part.new.sink) (map shown_byte c.put_part.new.block.items)
    (old ++ line_start) = put_after (told c.args.sink.now) (told c.args.sink.now) (told c.put_part.new.sink) old old
    (map shown_byte c.put_part.new.block.items) [] line_start (put_none (told c.args.sink.now) old)
    c.in_ok-put_part.ensures.puts.put in
    put_stops _ c.from_residual-in_err-put_part-2.result c.from_residual-in_err-put_part-2.ensures.1
    c.in_err-put_part-2.ensures.puts.failed
    (put_fails (told c.args.sink.now) (told c.put_part.new.sink) (told c.put_part-2.new.sink) old
    (map shown_byte c.put_part.new.block.items) line_start message (10 ∷ []) line put_1
    c.in_err-put_part-2.ensures.puts.front parts)

pub returns-clause-puts : goal.returns-clause-puts
returns-clause-puts g c =
    let told = λ (k : _). g.K.TakesBlocks.written k in
    let old = map shown_byte c.args.block.now.items in
    let line = outgoing_line c.args.session c.args.message.now in
    let line_start = map shown_byte c.line_start.result.now in
    let message = map shown_byte c.args.message.now in
    let parts : line ≡ line_start ++ (message ++ 10 ∷ []) = line_of_three c.args.session c.args.message.now line_start
    (c.line_start.ensures.shown ∙ c.line_start.ensures.text) in
    let put_1 : IsPut (told c.args.sink.now) (told c.put_part.new.sink) (map shown_byte c.put_part.new.block.items)
    (old ++ line_start) = put_after (told c.args.sink.now) (told c.args.sink.now) (told c.put_part.new.sink) old old
    (map shown_byte c.put_part.new.block.items) [] line_start (put_none (told c.args.sink.now) old)
    c.in_ok-put_part.ensures.puts.put in
    let put_2 : IsPut (told c.args.sink.now) (told c.put_part-2.new.sink) (map shown_byte c.put_part-2.new.block.items)
    (old ++ (line_start ++ message)) = put_after (told c.args.sink.now) (told c.put_part.new.sink)
    (told c.put_part-2.new.sink) old (map shown_byte c.put_part.new.block.items)
    (map shown_byte c.put_part-2.new.block.items) line_start message put_1 c.in_ok-put_part-2.ensures.puts.put in
    record {
      put = on_ok c.put_part-3.result
          (λ last. subst (λ (t : List _). IsPut (told c.args.sink.now) (told c.put_part-3.new.sink)
          (map shown_byte c.put_part-3.new.block.items) (old ++ t))
          (append_assoc line_start message (10 ∷ []) ∙ sym parts)
          (put_after (told c.args.sink.now) (told c.put_part-2.new.sink) (told c.put_part-3.new.sink) old
          (map shown_byte c.put_part-2.new.block.items) (map shown_byte c.put_part-3.new.block.items)
          (line_start ++ message) (10 ∷ []) put_2 last))
          c.put_part-3.ensures.puts.put;
      sound = c.put_part-3.ensures.puts.sound;
      failed = c.put_part-3.ensures.puts.failed;
      front = on_err c.put_part-3.result
          (λ last. put_fails (told c.args.sink.now) (told c.put_part-2.new.sink) (told c.put_part-3.new.sink) old
          (map shown_byte c.put_part-2.new.block.items) (line_start ++ message) (10 ∷ []) [] line put_2 last
          (parts ∙ sym (append_assoc line_start message (10 ∷ []))))
          c.put_part-3.ensures.puts.front;
    }
