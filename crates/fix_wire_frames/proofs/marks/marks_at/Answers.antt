use Rattle.std.proofs.Common.{eqb, sym, ◌∙◌, arith, w8}
use lib.Lanes.{chunk}
use Rattle.std.proofs.lemmas.Simd.{length-chunk, bitmask_splat}
use Rattle.fix_wire_frames.proofs.texts.MarkedPlaces.{marks_are}
use Rattle.fix_wire_frames.proofs.marks.marks_at.Goals as goal

pub returns : goal.returns
returns c =
    let v = chunk c.args.at 64 c.args.text.now in
    bitmask_splat w8 eqb v 64 1 (length-chunk c.args.at 64 c.args.text.now c.requires) (omega arith) ∙ sym (marks_are v)
