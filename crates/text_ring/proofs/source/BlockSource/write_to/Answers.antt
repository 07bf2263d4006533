use Rattle.std.proofs.Common.{refl, sym, ◌∙◌, false, append-nil}
use Rattle.rtrb.specs.Ring.{received}
use Rattle.text_ring.specs.Blocks.{text_in}
use Rattle.text_ring.proofs.Texts.{same_consumer_trans, text_more, is_mark_of, no_mark_of, none_of, some_of, plain_more, mark_more, writes_more, writes_no_more, none_failed}
use Rattle.text_ring.proofs.source.BlockSource.write_to.Goals as goal
use Rattle.text_ring.proofs.source.BlockSource.write_to.Goals.{then-is_ok, else-is_ok}

pub returns-then-is_empty-clause-read : goal.returns-then-is_empty-clause-read
returns-then-is_empty-clause-read g c =
    let was = c.loop.self.filled in
    let none = none_of c.in-Ok.block c.is_empty.result c.is_empty.ensures c.if-is_empty.true in
    mark_more (received was) (received c.pop.new.self) c.in-Ok.block false refl c.loop.invariant.plain
    c.in-Ok.ensures.ok.0 (is_mark_of c.in-Ok.block none)

pub returns-then-is_empty-clause-writes : goal.returns-then-is_empty-clause-writes
returns-then-is_empty-clause-writes g c =
    let was = c.loop.self.filled in
    let none = none_of c.in-Ok.block c.is_empty.result c.is_empty.ensures c.if-is_empty.true in
    let text = text_more (received was) (received c.pop.new.self) c.in-Ok.block c.in-Ok.ensures.ok.0 in
    rw (text, none, append-nil (text_in (received was))) c.loop.invariant.writes

pub loop-preserved-in-Ok : goal.loop-preserved-in-Ok
loop-preserved-in-Ok g c =
    let was = c.loop.self.filled in
    let told = g.K.Sink.written in
    let p = c.in-Ok.block in
    let some = some_of p c.is_empty.result c.is_empty.ensures c.if-is_empty.false in
    let text = text_more (received was) (received c.pop.new.self) p c.in-Ok.ensures.ok.0 in
    record {
      ring = same_consumer_trans c.args.self.now.filled was c.pop.new.self c.loop.invariant.ring c.in-Ok.ensures.ring;
      plain = plain_more (received was) (received c.pop.new.self) p false refl c.loop.invariant.plain
          c.in-Ok.ensures.ok.0 (no_mark_of p some);
      writes =
          elim c.if-is_ok.branch [
            | then-is_ok w ↦
                let wrote = w.write_all-result in
                rw (w.result-is, w.sink-is, text, ← w.deref.ensures.value)
                (writes_more c.loop.result wrote.result (told c.args.sink.now) (told c.loop.sink) (told wrote.new.sink)
                (g.K.Sink.has_failed c.loop.sink) (g.K.Sink.has_failed wrote.new.sink)
                (text_in (received was)) w.deref.result.now (sym c.is_ok.ensures.value ∙ w.if-is_ok.true)
                c.loop.invariant.writes
                wrote.ensures.ok wrote.ensures.not_failed wrote.ensures.failed_on_err wrote.ensures.front)
            | else-is_ok w ↦
                rw (w.result-is, w.sink-is, text)
                (writes_no_more c.loop.result (told c.args.sink.now) (told c.loop.sink)
                (g.K.Sink.has_failed c.loop.sink) (text_in (received was)) p.items
                (sym c.is_ok.ensures.value ∙ w.if-is_ok.false) c.loop.invariant.writes)
          ];
      kept =
          elim c.if-is_ok.branch [
            | then-is_ok w ↦ none_failed _ _ c.args.so_far c.loop.result c.loop.invariant.kept
                (sym c.is_ok.ensures.value ∙ w.if-is_ok.true)
            | else-is_ok w ↦ rw (w.result-is, w.sink-is) c.loop.invariant.kept
          ];
    }
