use Rattle.fix_session_judging.proofs.events.StateOfPlaces.{closed_law}
use Rattle.fix_session_judging.proofs.laws.closed_after.Goals as goal

pub returns : goal.returns
returns c = closed_law
