use Rattle.std.proofs.Common.{rules, take, drop}
use Rattle.std.proofs.Math.Seq.{take-add}
use Rattle.std.proofs.lemmas.List.{take_rest}
use Rattle.std.proofs.KnownBytes.{Appends-trans}
use Rattle.spread_rules_ends.proofs.whole.write_all.Goals as goal

pub loop-at-preserved : goal.loop-at-preserved
loop-at-preserved g c =
    let bs = c.args.bytes.now in
    let wrote = rw (take_rest bs c.loop-at.at) at c.in_ok-count.ensures.bytes in
    let joined = Appends-trans (g.K.Sink.written c.args.sink.now) (g.K.Sink.written c.loop-at.sink)
    (g.K.Sink.written c.write.new.self) (take c.loop-at.at bs) (take c.in_ok-count.count (drop c.loop-at.at bs))
    c.loop-at.invariant.2 wrote in
    (search rules, search rules, rw (take-add c.loop-at.at c.in_ok-count.count bs) joined)
