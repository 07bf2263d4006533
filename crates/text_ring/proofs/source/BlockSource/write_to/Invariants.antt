use Rattle.std.proofs.Common.{◌≡◌, true, false, is_ok, OnErr}
use Rattle.rtrb.specs.Ring.{received, SameConsumer}
use Rattle.gate_link_stages.specs.Marks.{ends}
use Rattle.text_messages.specs.code.Blocks.{Writes}
use Rattle.text_ring.specs.Blocks.{is_mark, text_in}
use Rattle.text_ring.proofs.source.BlockSource.write_to.Given as goal

abbrev pub invariant-loop : goal.invariant-loop
invariant-loop g l = record {
  ring : SameConsumer l.initial.self.filled l.self.filled;
  plain : ends is_mark (received l.self.filled) false ≡ true;
  writes :
      Writes l.result (g.K.Sink.written l.fn.sink) (g.K.Sink.written l.sink) (g.K.Sink.has_failed l.sink)
      (text_in (received l.self.filled));
  kept : OnErr l.fn.so_far ((is_ok l.result ≡ false) × (l.sink ≡ l.fn.sink));
}
