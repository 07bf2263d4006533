use Rattle.std.proofs.Common.{◌≡◌, ◌∙◌, sym, ap, arith, ◌<◌, length, get_or}
use Rattle.gate_link_stages.specs.Posting.{posted, written}
use Rattle.gate_link_sessions.proofs.inboxes.AlongTwoLists.{left_more}
use Rattle.gate_link_sessions.proofs.PartOfASession.{row_at}
use Rattle.live_writers.specs.code.Writing.{bytes_written}
use Rattle.live_day.proofs.JoinedParts.{row_written, finishes_whole, pair_left}
use Rattle.live_day.proofs.conclusion.all_finished.Goals as goal

pub finished-requires : goal.finished-requires
finished-requires g c =
    let i = c.loop-s.s in
    let was = c.loop-s.invariant in
    let here : i < length c.args.written.now = omega (arith, c.loop-s-test.true, c.loop-s.auto.written) in
    let d = c.index-posters-s.result in
    let w = c.index-written-s.result in
    pair_left c.args.posters.now c.loop-s.posters c.args.written.now c.loop-s.written i d w c.requires here
    (was.posters_left i d (omega arith)) (was.written_left i w (omega arith))

pub loop-s-preserved : goal.loop-s-preserved
loop-s-preserved g c =
    let i = c.loop-s.s in
    let was = c.loop-s.invariant in
    let here : i < length c.loop-s.written = omega (arith, c.loop-s-test.true, c.loop-s.auto.written) in
    let there : i < length c.args.posters.now = omega (arith, c.loop-s-test.true, c.requires.0) in
    let d = c.index-posters-s.result in
    let w = c.index-written-s.result in
    let f : written (get_or c.loop-s.written i w).writer ≡ posted (get_or c.loop-s.posters i d) =
    (finishes_whole c.finished.result _ _ _ c.if-not-finished.false c.finished.ensures.finished) in
    let left : get_or c.loop-s.posters i d ≡ get_or c.args.posters.now i d = was.posters_left i d (omega arith) in
    let same = c.finished.ensures.same in
    record {
      done = row_written bytes_written posted c.loop-s.written c.args.posters.now i _ here was.done
          (same.1 ∙ (f ∙ (ap posted left ∙ sym (row_at posted c.args.posters.now i d there))));
      posters_left = left_more c.args.posters.now c.loop-s.posters i c.finished.new.poster was.posters_left;
      written_left = left_more c.args.written.now c.loop-s.written i _ was.written_left;
    }
