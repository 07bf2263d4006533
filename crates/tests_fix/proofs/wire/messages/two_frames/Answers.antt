use Rattle.std.proofs.Common.{◌∷◌, [], refl}
use Rattle.fix_wire_frames.specs.Examples.{logon, order, logon_is, order_is}
use Rattle.tests_fix.proofs.wire.messages.two_frames.Goals as goal

pub returns : goal.returns
returns c = record { row = logon ∷ order ∷ []; whole = (logon_is, (order_is, tt)); joined = refl }
