use Rattle.rtrb.specs.Ring.{sent, known_items}
use Rattle.std.proofs.Common.{◌∙◌, ◌++◌, sym, ap, append_assoc}
use Rattle.gate_link_stages.specs.Feeds.{held_items}
use Rattle.gate_link_stages.specs.Feeding.{handed}
use Rattle.gate_link_stages.proofs.Feeds.{agreed}
use Rattle.gate_link_stages.proofs.feed_pair.agree.Goals as goal

pub returns-clause-agree : goal.returns-clause-agree
returns-clause-agree g c =
    let f = c.args.feeder.now in
    let m = c.args.matcher.now in
    let looked = c.slots_beside.ensures in
    let known = known_items c.slots_beside.new.self in
    let held = held_items m.items m.next m.filled in
    let all = ap (λ t. t ++ known) (sym looked.looked.1) ∙ (looked.fifo ∙ looked.producer.1) in
    agreed (handed m) (sent f.producer) (held ++ known) m.ended f.ended m.shape f.shape
    (sym (append_assoc (handed m) held known) ∙ (ap (λ t. t ++ known) (sym m.held) ∙ all))
