use Rattle.std.proofs.Common.{◌≡◌, ℕ, ◌<◌, ◌*◌, ◌∙◌, ap, subst, refl, arith, min, length, take}
use Rattle.std.proofs.lemmas.List.{length-take}
use Rattle.gate_link_stages.specs.Pieces.{bytes_in}
use Rattle.gate_link_stages.specs.declared.post.TheConstants.{POSTED_BYTES, MAX_POSTED_PIECES}
use Rattle.rtrb.specs.Ring.{sent, known_free}
use Rattle.gate_link_stages.proofs.Pieces.{pieces_more, pieces_or_not, too_little_room}
use Rattle.gate_link_stages.proofs.post.Poster.post_many.Goals as goal

pub invariant_of-self : goal.invariant_of-self
invariant_of-self g c =
    let p = c.args.self.now in
    let made = c.put_pieces-count in
    record {
      shape = pieces_or_not c.push_entire_slice.result _ _ (sent p.producer) (sent c.push_entire_slice.new.self)
          (take made.result made.new.pieces) p.ended p.shape c.if-self.false made.ensures.plain
          c.push_entire_slice.ensures.ok c.push_entire_slice.ensures.full (λ e looked. looked.0.1);
    }

pub returns-clause-post : goal.returns-clause-post
returns-clause-post g c =
    let p = c.args.self.now in
    let made = c.put_pieces-count in
    let step = pieces_more (sent p.producer) (sent c.push_entire_slice.new.self) (take made.result made.new.pieces)
    (take c.min-n.result c.args.bytes.now)
    p.ended p.shape c.if-self.false c.in-Ok.ensures.ok.0 made.ensures.plain made.ensures.bytes in (
      c.if-self.false,
      (c.min-n.ensures ∙ ap (λ k. min (length c.args.bytes.now) (k * POSTED_BYTES))
          (c.min-pieces.ensures ∙ ap (min MAX_POSTED_PIECES) c.capacity.ensures)),
      step.1,
      c.if-self.false,
    )

pub returns-in_default-clause-post : goal.returns-in_default-clause-post
returns-in_default-clause-post g c =
    let full = c.in_default.ensures.full in
    let made = c.put_pieces-count in
    let n = c.min-n.result in
    let pushed = length-take made.result made.new.pieces in
    let given = length-take n c.args.bytes.now in
    let whole : length (take n c.args.bytes.now) ≡ n = let at = c.min-n.ensures in omega (arith, given, at) in
    let room = too_little_room (known_free c.push_entire_slice.new.self) made.result
    (length (take made.result made.new.pieces)) n full.2 (omega (arith, pushed))
    (λ fits. made.ensures.room _ (omega (arith, whole, fits))) in (
      c.if-self.false,
      subst (λ (k : ℕ). known_free c.push_entire_slice.new.self * POSTED_BYTES < k)
          (c.min-n.ensures ∙ ap (λ k. min (length c.args.bytes.now) (k * POSTED_BYTES))
          (c.min-pieces.ensures ∙ ap (min MAX_POSTED_PIECES) c.capacity.ensures)) room,
      (ap bytes_in full.0.1, refl),
    )
