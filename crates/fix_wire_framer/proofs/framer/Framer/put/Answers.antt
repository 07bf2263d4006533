use Rattle.std.proofs.Common.{◌≤◌, length, ap, ◌∙◌, arith}
use Rattle.std.proofs.lemmas.List.{length-take-le}
use Rattle.fix_wire_framer.specs.code.FramerFields.{held_of}
use Rattle.fix_wire_framer.proofs.framing.FrontFrame.{put_kept}
use Rattle.fix_wire_framer.proofs.framer.Framer.put.Goals as goal
use Rattle.fix_wire_framer.proofs.framer.Framer.put.Goals.{then-taken-self, else-taken-self}

pub invariant_of-self : goal.invariant_of-self
invariant_of-self c =
    let f = c.self.inside in
    let i = c.if-taken-self.self-inside in
    let order = c.self.invariant.order in
    let taken = c.min-taken.ensures in
    let fits : c.min-taken.result ≤ length c.args.piece.now = omega (arith, taken) in
    let len = length-take-le c.min-taken.result c.args.piece.now fits in
    elim c.if-taken-self.branch [
      | then-taken-self w ↦
          let s = ap (λ r. r.start) w.self-inside-is in
          let e = ap (λ r. r.end) w.self-inside-is in
          put_kept f i _ _ c.min-taken.result c.self.invariant (omega (arith, s, e))
          (omega (arith, e, taken, order, c.self.invariant.room)) (ap (λ r. r.front_length) w.self-inside-is)
          (ap (λ r. r.table) w.self-inside-is) (ap held_of w.self-inside-is ∙ w.slide.ensures) len c.append.ensures
      | else-taken-self w ↦
          let s = ap (λ r. r.start) w.self-inside-is in
          let e = ap (λ r. r.end) w.self-inside-is in
          put_kept f i _ _ c.min-taken.result c.self.invariant (omega (arith, s, e, order))
          (omega (arith, e, w.if-taken-self.false, c.self.invariant.room))
          (ap (λ r. r.front_length) w.self-inside-is) (ap (λ r. r.table) w.self-inside-is)
          (ap held_of w.self-inside-is) len c.append.ensures
    ]
