-- How a reader keeps what its first message says.
-- Words of the code alone.
use Rattle.std.specs.Prelude.{◌≡◌, Some}
use Rattle.fix_wire_frames.specs.Held.{from_first_start}
use Rattle.fix_session_judging.specs.declared.session.Change.{Change}
use Rattle.fix_session_judging.specs.code.Changes.{judgement_with}
use Rattle.fix_session.specs.declared.reader.Reader.TheInside.{Inside}
use Rattle.fix_session_judging.specs.Reading.{ReaderState, first_judgement}

abbrev pub state_of : Inside → ReaderState
state_of r = record { held = r.framer; session = r.session }

-- Where a change is due, the verdict and the change are what the session says to the message at the very front.
pub record IsKept (r : Inside) : Type 0 where
  pub settled : (d : Change) → r.due ≡ Some d → from_first_start r.framer ≡ r.framer
  pub known : (d : Change) → r.due ≡ Some d
      → first_judgement (state_of r) ≡ Some (judgement_with r.session r.verdict d)
