use Rattle.fix_session_judging.proofs.events.ClosesOnce.{closes_with, closed_silent, ended_closed}
use Rattle.fix_session_judging.proofs.laws.closes_once.Goals as goal

pub returns-clause-open : goal.returns-clause-open
returns-clause-open c = closes_with

pub returns-clause-closed : goal.returns-clause-closed
returns-clause-closed c = closed_silent

pub returns-clause-ended : goal.returns-clause-ended
returns-clause-ended c = ended_closed
