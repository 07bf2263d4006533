use Rattle.std.proofs.Common.{ap, drop, ◌∙◌}
use Rattle.fix_wire_framer.proofs.framing.HeldPart.{range_drop}
use Rattle.fix_wire_framer.proofs.framer.Framer.pass_to.Goals as goal

pub returns : goal.returns
returns c =
    let f = c.self.inside in
    range_drop f.buffer f.start c.args.at f.end ∙ ap (drop c.args.at) c.self.view_is
