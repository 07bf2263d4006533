use Rattle.std.proofs.Common.{◌∙◌, sym, refl, ap, length}
use Rattle.rtrb.specs.Ring.{sent}
use Rattle.gate_link_stages.proofs.Feeds.{end_more}
use Rattle.gate_link_stages.proofs.feed.Feeder.end.Goals as goal

pub invariant_of-self-2 : goal.invariant_of-self-2
invariant_of-self-2 g c =
    let f = c.args.self.now in
    let step = end_more (sent f.producer) _ _ f.ended f.shape c.if-self.false c.in-Ok.ensures.ok.0 refl in
    record { shape = step.0; counted = f.counted ∙ ap length (sym step.1) }

pub returns-clause-end : goal.returns-clause-end
returns-clause-end g c =
    let f = c.args.self.now in
    let step = end_more (sent f.producer) _ _ f.ended f.shape c.if-self.false c.in-Ok.ensures.ok.0 refl in
    (refl, c.if-self.false, step.1, refl)
