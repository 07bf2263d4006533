use Rattle.fix_wire_frames.proofs.framing.FrameBody.{body_lawful}
use Rattle.fix_wire_frames.proofs.message.Message.kind.Goals as goal

pub first_value-requires-clause-body : goal.first_value-requires-clause-body
first_value-requires-clause-body c =
    body_lawful c.args.self.now.frame.now c.args.self.now.body.now c.args.self.now.lawful c.args.self.now.framed
