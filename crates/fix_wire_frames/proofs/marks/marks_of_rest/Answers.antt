use Rattle.std.proofs.Common.{◌++◌, drop, length, take, ap, ◌∙◌}
use Rattle.std.specs.Prelude.{replicate}
use Rattle.fix_wire_frames.specs.code.Marked.{marks_of}
use Rattle.fix_wire_frames.proofs.texts.MarkedPlaces.{block_of_rest}
use Rattle.fix_wire_frames.proofs.marks.marks_of_rest.Goals as goal

pub returns : goal.returns
returns c =
    c.marks_at.ensures
    ∙ ap (λ t. marks_of (take 64 (t ++ drop (length c.args.rest.now) (replicate 64 0)))) c.copy_from_slice.ensures.after
    ∙ block_of_rest c.args.rest.now c.requires
