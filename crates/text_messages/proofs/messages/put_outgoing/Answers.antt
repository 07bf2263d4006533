use Rattle.std.proofs.Common.{rules, ◌≡◌, ◌++◌, List, ℕ, map, sym, ap, ◌∙◌, append_assoc}
use Rattle.std.specs.List.{flat_map}
use Rattle.text_messages.specs.Messages.{outgoing_line}
use Rattle.text_messages.specs.code.Messages.{shown_byte, session_lines}
use Rattle.text_messages.proofs.BlocksInTurn.{put_after, put_fails, put_stops}
use Rattle.text_messages.proofs.messages.put_outgoing.Goals as goal

pub returns-in_err-put_message-clause-puts : goal.returns-in_err-put_message-clause-puts
returns-in_err-put_message-clause-puts g c =
    let told = λ (k : _). g.K.TakesBlocks.written k in
    let so_far = c.loop-message.invariant.0 in
    let line = outgoing_line c.args.session c.in-Some.message.now in
    let lines = session_lines c.args.session c.in-Some.later.now in
    let next : session_lines c.args.session c.loop-message.rest.now ≡ line
    ++ lines = ap (λ (fs : List (List ℕ)). flat_map (outgoing_line c.args.session) fs) c.in-Some.ensures.found in
    put_stops _ c.from_residual.result c.from_residual.ensures.1 c.in_err-put_message.ensures.puts.failed
    (put_fails (told c.args.sink.now) (told c.loop-message.sink) (told c.put_message.new.sink)
    (map shown_byte c.args.block.now.items) (map shown_byte c.loop-message.block.items) so_far.0 line lines
    (session_lines c.args.session c.args.bytes.now)
    so_far.1 c.in_err-put_message.ensures.puts.front (so_far.2 ∙ ap (λ (t : List ℕ). so_far.0 ++ t) next))

pub loop-message-preserved : goal.loop-message-preserved
loop-message-preserved g c =
    let told = λ (k : _). g.K.TakesBlocks.written k in
    let so_far = c.loop-message.invariant.0 in
    let line = outgoing_line c.args.session c.in-Some.message.now in
    let lines = session_lines c.args.session c.in-Some.later.now in
    let next : session_lines c.args.session c.loop-message.rest.now ≡ line
    ++ lines = ap (λ (fs : List (List ℕ)). flat_map (outgoing_line c.args.session) fs) c.in-Some.ensures.found in (
      (
        so_far.0 ++ line,
        put_after (told c.args.sink.now) (told c.loop-message.sink) (told c.put_message.new.sink)
            (map shown_byte c.args.block.now.items) (map shown_byte c.loop-message.block.items)
            (map shown_byte c.put_message.new.block.items) so_far.0 line so_far.1 c.in_ok-put_message.ensures.puts.put,
        so_far.2 ∙ (ap (λ (t : List ℕ). so_far.0 ++ t) next ∙ sym (append_assoc so_far.0 line lines)),
      ),
      search rules,
      search rules,
      search rules,
    )
