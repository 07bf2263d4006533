use Rattle.std.proofs.Common.{◌<◌, length, ◌∙◌, arith}
use Rattle.std.proofs.lemmas.List.{length-set}
use Rattle.spread_report_outbound.proofs.TakenBack.{cut_more, rest_more}
use Rattle.spread_report_outbound.proofs.taking_back.cut_back.Goals as goal

pub loop-s-preserved : goal.loop-s-preserved
loop-s-preserved g c =
    let below : c.loop-s.s < length c.loop-s.lists = omega (arith, c.loop-s-test.true, c.loop-s.invariant.size) in
    record {
      size = length-set c.loop-s.lists c.loop-s.s c.truncate.new.self ∙ c.loop-s.invariant.size;
      cut = cut_more c.loop-s.lists c.args.lists.now c.loop-s.s c.truncate.new.self c.index-lists-s.result
          c.args.lengths.now below c.loop-s.invariant.cut c.loop-s.invariant.rest c.truncate.ensures.items;
      rest = rest_more c.loop-s.lists c.args.lists.now c.loop-s.s c.truncate.new.self c.index-lists-s.result
          c.args.lengths.now c.loop-s.invariant.rest;
    }
