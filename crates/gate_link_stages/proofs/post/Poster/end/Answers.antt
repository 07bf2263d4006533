use Rattle.std.proofs.Common.{refl}
use Rattle.rtrb.specs.Ring.{sent}
use Rattle.gate_link_stages.proofs.Pieces.{mark_more}
use Rattle.gate_link_stages.proofs.post.Poster.end.Goals as goal

pub invariant_of-self-2 : goal.invariant_of-self-2
invariant_of-self-2 g c =
    let p = c.args.self.now in
    record {
      shape = (mark_more (sent p.producer) (sent c.push.new.self) _ p.ended p.shape c.if-self.false
          c.in-Ok.ensures.ok.0 refl).0;
    }

pub returns-clause-end : goal.returns-clause-end
returns-clause-end g c =
    let p = c.args.self.now in
    let step = mark_more (sent p.producer) (sent c.push.new.self) _ p.ended p.shape c.if-self.false c.in-Ok.ensures.ok.0
    refl in
    (refl, c.if-self.false, step.1, refl)
