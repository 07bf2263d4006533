use Rattle.std.proofs.Common.{ℕ, ◌<◌, length, ap, ◌∙◌, arith}
use Rattle.std.specs.declared.vec.Vec.{Vec}
use Rattle.std.proofs.lemmas.List.{length-set}
use Rattle.spread_report_outbound.proofs.TakenBack.{lengths_more}
use Rattle.spread_report_outbound.proofs.taking_back.note_lengths.Goals as goal

pub loop-s-preserved : goal.loop-s-preserved
loop-s-preserved g c =
    let below : c.loop-s.s < length c.args.lists.now = omega (arith, c.loop-s-test.true, c.requires) in
    let there : c.loop-s.s < length c.loop-s.lengths = omega (arith, c.loop-s-test.true, c.loop-s.invariant.size) in
    record {
      size = length-set c.loop-s.lengths c.loop-s.s c.len-count.result ∙ c.loop-s.invariant.size;
      done = lengths_more c.args.lists.now c.loop-s.s c.len-count.result c.index-lists-s.result c.loop-s.lengths below
          there (c.len-count.ensures ∙ (c.index-lists-s.result.ok.0
          ∙ ap (λ (v : Vec ℕ g.row.A.Denot). length v.items) c.index-lists-s.is)) c.loop-s.invariant.done;
    }
