use Rattle.std.proofs.Common.{take}
use Rattle.fix_session.proofs.readers.FirstMessage.{put_kept}
use Rattle.fix_session.proofs.reader.Reader.put.Goals as goal

pub invariant_of-self : goal.invariant_of-self
invariant_of-self c = put_kept c.self.inside c.put.new.self (take c.put.result c.args.piece.now) c.self.invariant
    c.put.ensures.appended
