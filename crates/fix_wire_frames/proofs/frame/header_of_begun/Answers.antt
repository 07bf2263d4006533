use Rattle.std.proofs.Common.{sym, ap, ◌∙◌}
use Rattle.std.proofs.lemmas.List.{take_rest}
use Rattle.fix_wire_frames.proofs.texts.HeaderAtTheFront.{header_when}
use Rattle.fix_wire_frames.specs.code.Frames.{header_after}
use Rattle.fix_wire_frames.proofs.frame.header_of_begun.Goals as goal

pub returns : goal.returns
returns c = c.header_after.ensures ∙ ap header_after (take_rest c.args.text.now 12)
    ∙ sym (header_when c.args.text.now c.requires)
