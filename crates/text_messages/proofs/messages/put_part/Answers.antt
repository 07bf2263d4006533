use Rattle.std.proofs.Common.{rules, ◌≡◌, ◌++◌, [], List, ℕ, map, sym, ap, subst, ◌∙◌, append_assoc}
use Rattle.std.proofs.lemmas.List.{map-append}
use Rattle.text_messages.specs.code.Messages.{shown_byte}
use Rattle.text_messages.specs.code.Blocks.{IsPut}
use Rattle.text_messages.proofs.BlocksInTurn.{put_fails, put_more, put_after, front_of_more, put_stops}
use Rattle.text_messages.proofs.LinesInParts.{shown_more}
use Rattle.text_messages.proofs.messages.put_part.Goals as goal

pub returns-in_err-make_room_shown-clause-puts : goal.returns-in_err-make_room_shown-clause-puts
returns-in_err-make_room_shown-clause-puts g c =
    let told = λ (k : _). g.K.TakesBlocks.written k in
    let so_far = c.loop-rest.invariant.0 in
    let old = map shown_byte c.args.block.now.items in
    let mid = map shown_byte c.loop-rest.block.items in
    let split = ap (λ (t : List ℕ). map shown_byte t) so_far.2 ∙ map-append shown_byte so_far.0 c.loop-rest.rest.now in
    put_stops _ c.from_residual.result c.from_residual.ensures.1 c.in_err-make_room_shown.ensures.puts.failed
    (put_fails (told c.args.sink.now) (told c.loop-rest.sink) (told c.make_room_shown.new.sink) old mid
    (map shown_byte so_far.0) [] (map shown_byte c.loop-rest.rest.now) (map shown_byte c.args.bytes.now)
    so_far.1 (front_of_more (told c.loop-rest.sink) (told c.make_room_shown.new.sink) mid []
    c.in_err-make_room_shown.ensures.puts.front) split)

pub loop-rest-preserved : goal.loop-rest-preserved
loop-rest-preserved g c =
    let told = λ (k : _). g.K.TakesBlocks.written k in
    let so_far = c.loop-rest.invariant.0 in
    let done = so_far.0 in
    let now = c.split_at.result.0.now in
    let later = c.split_at.result.1.now in
    let old = map shown_byte c.args.block.now.items in
    let mid = map shown_byte c.loop-rest.block.items in
    let new = map shown_byte c.append.new.block.items in
    let put = put_more (told c.loop-rest.sink) (told c.make_room_shown.new.sink)
    (map shown_byte c.make_room_shown.new.block.items) new mid (map shown_byte now)
    c.in_ok-make_room_shown.ensures.puts.put (shown_more c.make_room_shown.new.block.items c.append.new.block.items now
    c.append.ensures.items) in
    let all = put_after (told c.args.sink.now) (told c.loop-rest.sink) (told c.make_room_shown.new.sink) old mid new
    (map shown_byte done) (map shown_byte now) so_far.1 put in
    let parts : c.loop-rest.rest.now ≡ now ++ later = search rules in (
      (
        done ++ now,
        subst (λ (t : List ℕ). IsPut (told c.args.sink.now) (told c.make_room_shown.new.sink) new (old ++ t))
            (sym (map-append shown_byte done now)) all,
        so_far.2 ∙ (ap (λ (t : List ℕ). done ++ t) parts ∙ sym (append_assoc done now later)),
      ),
      search rules,
      search rules,
    )
