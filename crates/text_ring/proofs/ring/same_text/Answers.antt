use Rattle.std.proofs.Common.{ap, sym, ◌∙◌, ◌≡◌, ◌++◌}
use Rattle.rtrb.specs.Ring.{sent, received, known_items}
use Rattle.gate_link_stages.proofs.Marks.{all_taken}
use Rattle.text_ring.specs.Blocks.{is_mark, text_in}
use Rattle.text_ring.proofs.ring.same_text.Goals as goal

-- the mark was taken, so all that was given was
pub returns : goal.returns
returns g c =
    let took = received c.args.source.now.filled in
    let known = known_items c.slots_beside.new.self in
    let gave = sent c.args.sink.now.filled in
    let looked = c.slots_beside.ensures.looked in
    let producer = c.slots_beside.ensures.producer in
    let all : took ++ known ≡ gave = sym (ap (λ xs. xs ++ known) looked.1)
    ∙ (c.slots_beside.ensures.fifo ∙ producer.1) in
    ap text_in (all_taken is_mark took known gave c.args.sink.now.ended c.requires.read c.args.sink.now.shape all).1
