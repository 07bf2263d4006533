use Rattle.fix_wire_frames.specs.Frames.{frames}
use Rattle.fix_session_judging.proofs.events.StateOfPlaces.{events_law, whole_law}
use Rattle.fix_session_judging.proofs.laws.judged.Goals as goal

pub returns-clause-frames : goal.returns-clause-frames
returns-clause-frames c = events_law

pub returns-clause-whole_frames : goal.returns-clause-whole_frames
returns-clause-whole_frames c = whole_law

pub returns-clause-events : goal.returns-clause-events
returns-clause-events c stream = events_law (frames stream)

pub returns-clause-whole : goal.returns-clause-whole
returns-clause-whole c stream = whole_law (frames stream)
