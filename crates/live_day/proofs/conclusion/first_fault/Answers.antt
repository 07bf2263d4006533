use Rattle.live_day.proofs.JoinedParts.{fault_named}
use Rattle.live_day.proofs.conclusion.first_fault.Goals as goal

pub returns-in-Fault-clause-fault : goal.returns-in-Fault-clause-fault
returns-in-Fault-clause-fault c =
    rw c.of_apply.ensures (fault_named c.args.sequenced c.args.matched c.args.place c.in-Fault.fault c.in-Fault.is)
