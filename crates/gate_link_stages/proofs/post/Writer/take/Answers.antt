use Rattle.std.proofs.Common.{◌<◌, ◌≤◌, ◌≡◌, ◌∙◌, ap, sym, [], ◌∷◌, ◌++◌, true, false, take, subst}
use Rattle.rtrb.specs.Ring.{received, known_items}
use Rattle.gate_link_stages.specs.declared.post.TheConstants.{POSTED_BYTES}
use Rattle.gate_link_stages.specs.Pieces.{is_mark, bytes_of_piece}
use Rattle.gate_link_stages.proofs.Marks.{same_first}
use Rattle.gate_link_stages.proofs.Pieces.{mark_more, piece_more, is_above, is_within, plain_bytes}
use Rattle.gate_link_stages.proofs.post.Writer.take.Goals as goal
use Rattle.gate_link_stages.proofs.post.Writer.take.Goals.{After-pop_known, After-pop_known-2}

pub invariant_of-self-then-n-gt-POSTED_BYTES : goal.invariant_of-self-then-n-gt-POSTED_BYTES
invariant_of-self-then-n-gt-POSTED_BYTES g c =
    let w = c.args.self.now in
    let p = c.peek_known-piece.result.now in
    let q = c.pop_known.result in
    let same : q ≡ p = same_first p q (known_items c.is_empty.new.self) (known_items c.pop_known.new.self)
    c.peek_known-piece.ensures c.pop_known.ensures.received.1 in
    let all : received c.pop_known.new.self ≡ received w.consumer ++ q ∷ [] = c.pop_known.ensures.received.0
    ∙ ap (λ t. t ++ q ∷ []) c.is_empty.ensures.looked.1 in
    let mark : is_mark q ≡ true = ap is_mark same ∙ is_above p.length
    (subst (λ k. POSTED_BYTES < k) c.from-n.ensures c.if-n-gt-POSTED_BYTES.true) in
    let step = mark_more (received w.consumer) (received c.pop_known.new.self) q w.ended w.shape c.if-self.false all
    mark in
    record { shape = step.0; whole = w.whole ∙ sym step.1 }

pub invariant_of-self-2 : goal.invariant_of-self-2
invariant_of-self-2 g c =
    let w = c.args.self.now in
    let p = c.peek_known-piece.result.now in
    let q = c.pop_known-2.result in
    let same : q ≡ p = same_first p q (known_items c.is_empty.new.self) (known_items c.pop_known-2.new.self)
    c.peek_known-piece.ensures c.pop_known-2.ensures.received.1 in
    let all : received c.pop_known-2.new.self ≡ received w.consumer ++ q ∷ [] = c.pop_known-2.ensures.received.0
    ∙ ap (λ t. t ++ q ∷ []) c.is_empty.ensures.looked.1 in
    let plain : is_mark p ≡ false = is_within p.length
    (subst (λ k. k ≤ POSTED_BYTES) c.from-n.ensures c.if-n-gt-POSTED_BYTES.false) in
    let step = piece_more (received w.consumer) (received c.pop_known-2.new.self) q (take p.length p.bytes) w.ended
    w.shape c.if-self.false all (ap is_mark same ∙ plain) (ap bytes_of_piece same ∙ plain_bytes p plain) in
    let grown : c.extend_from_slice.new.self.items ≡ w.bytes.items ++ take p.length p.bytes =
    subst (λ k. c.extend_from_slice.new.self.items ≡ w.bytes.items ++ take k p.bytes) c.from-n.ensures
    c.in_ok-extend_from_slice.ensures.items in
    record { shape = step.0; whole = grown ∙ (ap (λ t. t ++ take p.length p.bytes) w.whole ∙ sym step.1) }
