use Rattle.std.proofs.Common.{ℕ, List, length, inl, Vec}
use Rattle.spread_rules_rulebook.specs.Rulebook.{Rules}
use Rattle.live_day.specs.declared.fault.ThreadsFault.{ThreadsFault}
use Rattle.live_day.specs.declared.fault.ThreadsFault.TheVariants.{Link, Spawn, JournalFull, NoMemory, NumbersSpent}
use Rattle.apply_desk.specs.Sending.{sending_rules}
use Rattle.live_day.specs.code.Starting.{IsStartFault}
use Rattle.live_day.specs.Streams.{IsThreadsFault}
use Rattle.live_day.proofs.sessions.sessions_in.Goals as goal

-- where not all threads run, that is why there is no day
no_start : {A : Type 0} (rules : Rules) (streams : List (Vec ℕ A)) (ring room : ℕ) (f : ThreadsFault)
    → IsStartFault (length streams) f → IsThreadsFault rules streams ring room f
no_start rules streams ring room (NoMemory place) h = inl h
no_start rules streams ring room (Spawn k) h = h
no_start rules streams ring room (Link fault) h = absurd h
no_start rules streams ring room JournalFull h = absurd h
no_start rules streams ring room (NumbersSpent place) h = absurd h

pub returns-clause-fault : goal.returns-clause-fault
returns-clause-fault g c = λ ring. no_start (sending_rules c.args.stages.posted.reported) c.args.streams.items ring
    c.args.stages.room c.in-Err.fault c.in-Err.ensures.fault
