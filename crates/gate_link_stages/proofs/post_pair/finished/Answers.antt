use Rattle.rtrb.specs.Ring.{sent, received, known_items}
use Rattle.std.proofs.Common.{◌∙◌, ◌++◌, sym, ap}
use Rattle.gate_link_stages.proofs.Pieces.{finishes}
use Rattle.gate_link_stages.proofs.post_pair.finished.Goals as goal

pub returns-clause-finished : goal.returns-clause-finished
returns-clause-finished g c =
    let p = c.args.poster.now in
    let w = c.args.writer.now in
    let looked = c.slots_beside.ensures in
    let all = ap (λ t. t ++ known_items c.slots_beside.new.self) (sym looked.looked.1)
    ∙ (looked.fifo ∙ looked.producer.1) in
    finishes (received w.consumer) (known_items c.slots_beside.new.self) (sent p.producer) w.bytes.items w.ended p.ended
    w.shape p.shape w.whole all
