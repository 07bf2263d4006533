use Rattle.std.proofs.Common.{◌<◌, length}
use Rattle.rtrb.specs.Ring.{sent}
use Rattle.text_ring.proofs.Texts.{no_mark_of, plain_more, some_of}
use Rattle.text_ring.proofs.sink.BlockSink.take.Goals as goal

pub invariant_of-self : goal.invariant_of-self
invariant_of-self g c =
    let was = c.args.self.now in
    let some : 0 < length c.exchange-full.result.items =
    rw c.exchange-full.ensures.items (some_of c.args.block.now c.is_empty.result c.is_empty.ensures
    c.if-is_empty.false) in
    record {
      shape = plain_more (sent was.filled) (sent c.give.new.filled) c.exchange-full.result was.ended
          c.requires was.shape c.give.ensures.sent (no_mark_of c.exchange-full.result some);
    }
