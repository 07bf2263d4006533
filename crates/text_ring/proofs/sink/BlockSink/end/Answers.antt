use Rattle.rtrb.specs.Ring.{sent}
use Rattle.text_ring.proofs.Texts.{is_mark_of, mark_more}
use Rattle.text_ring.proofs.sink.BlockSink.end.Goals as goal

pub invariant_of-self : goal.invariant_of-self
invariant_of-self g c =
    let was = c.args.self.now in
    record {
      shape = mark_more (sent was.filled) (sent c.give.new.filled) c.take_empty-mark.result was.ended
          c.if-self.false was.shape c.give.ensures.sent (is_mark_of c.take_empty-mark.result
          c.take_empty-mark.ensures.empty);
    }
