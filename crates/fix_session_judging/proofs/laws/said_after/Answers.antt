use Rattle.fix_session_judging.proofs.events.StateOfPlaces.{said_two, after_two}
use Rattle.std.proofs.Common.{[], ◌∷◌}
use Rattle.fix_session_judging.proofs.laws.said_after.Goals as goal

pub returns-clause-one : goal.returns-clause-one
returns-clause-one c s fs f = said_two s fs (f ∷ [])

pub returns-clause-after_one : goal.returns-clause-after_one
returns-clause-after_one c s fs f = after_two s fs (f ∷ [])

pub returns-clause-events : goal.returns-clause-events
returns-clause-events c = said_two

pub returns-clause-after : goal.returns-clause-after
returns-clause-after c = after_two
