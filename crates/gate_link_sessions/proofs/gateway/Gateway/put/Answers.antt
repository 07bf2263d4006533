use Rattle.std.proofs.Common.{◌∙◌, sym, ◌++◌, take, length}
use Rattle.fix_wire_frames.specs.Frames.{frames}
use Rattle.gate_link_sessions.proofs.gateways.StillOwed.{owes_nothing}
use Rattle.gate_link_sessions.proofs.gateway.Gateway.put.Goals as goal

-- once closed it has left to say nothing, whatever follows
pub returns-then-is_closed-clause-pending : goal.returns-then-is_closed-clause-pending
returns-then-is_closed-clause-pending g c more =
    let a = c.args.self.now in
    let shut = sym c.is_closed.ensures ∙ c.if-is_closed.true in
    owes_nothing a.reader.session (frames (a.reader.held ++ more)) shut
    ∙ sym (owes_nothing a.reader.session (frames (a.reader.held
    ++ (take (length c.args.piece.now) c.args.piece.now ++ more))) shut)
