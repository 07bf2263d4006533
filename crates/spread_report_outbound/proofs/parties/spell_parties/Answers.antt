use Rattle.std.proofs.Common.{◌<◌, ◌∙◌, length, sym, arith}
use Rattle.std.proofs.lemmas.List.{length-set}
use Rattle.spread_report_outbound.proofs.PartiesSpelled.{spelled_more}
use Rattle.spread_report_outbound.proofs.parties.spell_parties.Goals as goal

pub loop-s-preserved : goal.loop-s-preserved
loop-s-preserved c =
    let r = c.index-comp_ids-s.result in
    let in_ids : c.loop-s.s < length c.args.comp_ids.now = omega (arith, c.loop-s-test.true, c.type_inv.comp_ids) in
    let in_parties : c.loop-s.s < length c.loop-s.parties =
    omega (arith, c.loop-s-test.true, c.loop-s.invariant.size) in
    record {
      size = length-set c.loop-s.parties c.loop-s.s c.spelled_parties.result ∙ c.loop-s.invariant.size;
      done =
          spelled_more c.args.stamp.now c.args.comp_ids.now c.loop-s.parties c.loop-s.s c.spelled_parties.result r
          in_ids in_parties c.index-comp_ids-s.is
          (λ ids there. c.spelled_parties.ensures ids (sym c.index-comp_ids-s.is ∙ there))
          c.loop-s.invariant.done;
    }

pub returns-clause-spelled : goal.returns-clause-spelled
returns-clause-spelled c = λ s below. c.loop-s.invariant.done s (omega (arith, below, c.loop-s-test.false))
