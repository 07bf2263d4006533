use Rattle.std.proofs.Common.{◌+◌, ◌-◌, length, ap, ◌∙◌, arith}
use Rattle.std.specs.List.{between}
use borrow.Rule.Slice.PartMut.{put_mid}
use Rattle.fix_wire_framer.proofs.framing.HeldPart.{append_is}
use Rattle.fix_wire_framer.proofs.framer.append.Goals as goal

pub returns : goal.returns
returns c =
    let end = c.args.end in
    let piece = c.args.piece.now in
    let xs = c.args.buffer.now in
    let k = c.args.end + length c.args.piece.now - c.args.end in
    ap (λ ys. between c.args.start (end + length piece) (put_mid end k xs ys)) c.copy_from_slice.ensures.after
    ∙ append_is c.args.start end k xs piece c.requires.order (omega arith)
