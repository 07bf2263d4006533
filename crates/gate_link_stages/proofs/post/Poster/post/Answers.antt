use Rattle.rtrb.specs.Ring.{sent}
use Rattle.gate_link_stages.proofs.Pieces.{piece_more, pushed_or_not}
use Rattle.gate_link_stages.proofs.post.Poster.post.Goals as goal

pub invariant_of-self : goal.invariant_of-self
invariant_of-self g c =
    let p = c.args.self.now in
    record {
      shape = pushed_or_not c.push.result (sent p.producer) (sent c.push.new.self) c.put_piece.new.piece p.ended
          _ _ _ p.shape c.if-self.false c.put_piece.ensures.plain c.push.ensures.ok c.push.ensures.full;
    }

pub returns-clause-post : goal.returns-clause-post
returns-clause-post g c =
    let p = c.args.self.now in
    let step = piece_more (sent p.producer) (sent c.push.new.self) c.put_piece.new.piece _ p.ended p.shape
    c.if-self.false c.in-Ok.ensures.ok.0 c.put_piece.ensures.plain c.put_piece.ensures.bytes in
    (c.if-self.false, c.min-n.ensures, step.1, c.if-self.false)
