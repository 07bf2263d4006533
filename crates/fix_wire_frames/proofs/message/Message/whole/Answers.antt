use Rattle.std.proofs.Common.{Some, refl, ap, ◌∙◌, sym, option_map}
use Rattle.fix_wire_frames.specs.Frames.{body_at}
use Rattle.fix_wire_frames.proofs.message.Message.whole.Goals as goal

pub body_of-requires-clause-header : goal.body_of-requires-clause-header
body_of-requires-clause-header c = (c.in-Frame.ensures.table c.in-Frame.n refl).header

pub invariant_of-result-clause-framed : goal.invariant_of-result-clause-framed
invariant_of-result-clause-framed c =
    ap (option_map (body_at c.args.bytes.now)) (c.in-Frame.ensures.table c.in-Frame.n refl).header
    ∙ ap Some (sym c.body_of.ensures)
