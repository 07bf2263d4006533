use Rattle.std.proofs.Common.{rules, ◌≡◌, ◌+◌, ◌<◌, ◌++◌, ℕ, List, [], length, map, take, get_or, Vec, subst, sym, ap, ◌∙◌, append_assoc}
use Rattle.std.proofs.lemmas.List.{length-map, get_or-map}
use Rattle.std.proofs.lemmas.List.Elements.{All-get_or}
use Rattle.fix_wire_frames.specs.Frames.{IsFrameRow}
use Rattle.text_messages.specs.code.Messages.{shown_byte, session_lines, outgoing_lines_from}
use Rattle.text_messages.specs.code.Blocks.{IsPut}
use Rattle.text_messages.proofs.SessionLines.{sessions_next_of, sessions_rest}
use Rattle.text_messages.proofs.BlocksInTurn.{put_after, put_fails, put_stops}
use Rattle.text_messages.proofs.messages.put_sessions.Goals as goal

pub put_outgoing-requires-clause-row : goal.put_outgoing-requires-clause-row
put_outgoing-requires-clause-row g c =
    let texts = map (λ (v : Vec ℕ g.row.B.Denot). v.items) c.args.lists.now in
    subst IsFrameRow
    (sym (c.deref.ensures.value ∙ (ap (λ (v : Vec ℕ g.row.B.Denot). v.items) c.index-lists-session.is
    ∙ sym (get_or-map (λ (v : Vec ℕ g.row.B.Denot). v.items) c.args.lists.now c.loop-session.session
    c.index-lists-session.result [] c.loop-session-test.true))))
    (All-get_or IsFrameRow texts c.loop-session.session [] (simp length-map c.loop-session-test.true) c.requires.rows)

pub returns-in_err-put_outgoing-clause-puts : goal.returns-in_err-put_outgoing-clause-puts
returns-in_err-put_outgoing-clause-puts g c =
    let told = λ (k : _). g.K.TakesBlocks.written k in
    let texts = map (λ (v : Vec ℕ g.row.B.Denot). v.items) c.args.lists.now in
    let s = c.loop-session.session in
    let within : s < length texts = simp length-map c.loop-session-test.true in
    let bytes : c.deref.result.now ≡ get_or texts s [] =
    c.deref.ensures.value ∙ (ap (λ (v : Vec ℕ g.row.B.Denot). v.items) c.index-lists-session.is
    ∙ sym (get_or-map (λ (v : Vec ℕ g.row.B.Denot). v.items) c.args.lists.now s c.index-lists-session.result []
    c.loop-session-test.true)) in
    let line = session_lines s c.deref.result.now in
    let before = outgoing_lines_from 0 (take s texts) in
    let rest = sessions_rest texts 0 (s + 1) in
    put_stops _ c.from_residual.result c.from_residual.ensures.1 c.in_err-put_outgoing.ensures.puts.failed
    (put_fails (told c.args.sink.now) (told c.loop-session.sink) (told c.put_outgoing.new.sink)
    (map shown_byte c.args.block.now.items) (map shown_byte c.loop-session.block.items) before line rest.0
    (outgoing_lines_from 0 texts)
    c.loop-session.invariant.0 c.in_err-put_outgoing.ensures.puts.front
    (rest.1 ∙ (ap (λ (t : List ℕ). t ++ rest.0) (sessions_next_of texts s c.deref.result.now bytes within)
    ∙ append_assoc before line rest.0)))

pub loop-session-preserved : goal.loop-session-preserved
loop-session-preserved g c =
    let told = λ (k : _). g.K.TakesBlocks.written k in
    let texts = map (λ (v : Vec ℕ g.row.B.Denot). v.items) c.args.lists.now in
    let s = c.loop-session.session in
    let within : s < length texts = simp length-map c.loop-session-test.true in
    let bytes : c.deref.result.now ≡ get_or texts s [] =
    c.deref.ensures.value ∙ (ap (λ (v : Vec ℕ g.row.B.Denot). v.items) c.index-lists-session.is
    ∙ sym (get_or-map (λ (v : Vec ℕ g.row.B.Denot). v.items) c.args.lists.now s c.index-lists-session.result []
    c.loop-session-test.true)) in
    let line = session_lines s c.deref.result.now in
    let before = outgoing_lines_from 0 (take s texts) in (
      subst (λ (t : List ℕ). IsPut (told c.args.sink.now) (told c.put_outgoing.new.sink)
          (map shown_byte c.put_outgoing.new.block.items) ((map shown_byte c.args.block.now.items) ++ t))
          (sym (sessions_next_of texts s c.deref.result.now bytes within))
          (put_after (told c.args.sink.now) (told c.loop-session.sink) (told c.put_outgoing.new.sink)
          (map shown_byte c.args.block.now.items) (map shown_byte c.loop-session.block.items)
          (map shown_byte c.put_outgoing.new.block.items) before line c.loop-session.invariant.0
          c.in_ok-put_outgoing.ensures.puts.put),
      search rules,
      search rules,
    )
