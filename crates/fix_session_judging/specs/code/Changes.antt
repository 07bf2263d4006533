-- What a message changes in a session, in place of the session after it.
-- Words of the code alone.
use Rattle.std.specs.Prelude.{ℕ, ◌+◌, Bool, false}
use Rattle.spread_rules_ids.specs.declared.limits.TheConstants.{FIRST_MSG_SEQ_NUM}
use Rattle.spread_rules.specs.declared.event.Event.TheVariants as events
use Rattle.fix_session_judging.specs.declared.session.Verdict.{Verdict}
use Rattle.fix_session_judging.specs.declared.session.Verdict.TheVariants as verdicts
use Rattle.fix_session_judging.specs.declared.session.Change.{Change}
use Rattle.fix_session_judging.specs.declared.session.Change.TheVariants as changes
use Rattle.fix_session_judging.specs.declared.session.Running.{Running}
use Rattle.fix_session_judging.specs.declared.session.State.{State}
use Rattle.fix_session_judging.specs.declared.session.State.TheVariants as states
use Rattle.fix_session_judging.specs.declared.session.Session.{Session}
use Rattle.fix_session_judging.specs.Steps.{running, closed}

-- a session is opened by what says a Logon
abbrev pub opened_by : Session → Verdict → Session
opened_by s (verdicts.Event (events.Logon client host beat)) =
    running (record { client = client; host = host; due = FIRST_MSG_SEQ_NUM + 1; gap_asked = false })
opened_by s _ = s

-- a running session goes on with this number due
abbrev pub with_due : State → ℕ → Bool → Session
with_due (states.Running r) number asked = running (record r { due = number; gap_asked = asked })
with_due state number asked = record { state = state }

-- the session after a change
abbrev pub changed : Session → Verdict → Change → Session
changed s v changes.Nothing = s
changed s v changes.Opens = opened_by s v
changed s v (changes.Due number asked) = with_due s.state number asked
changed s v changes.Closes = closed

-- a verdict, and the session after the change
abbrev pub judgement_of : Session → Verdict × Change → Verdict × Session
judgement_of s d = (d.0, changed s d.0 d.1)

-- the same of a session that runs
abbrev pub judgement_in : Running → Verdict × Change → Verdict × Session
judgement_in r d = judgement_of (running r) d

-- the same of a verdict and a change
abbrev pub judgement_with : Session → Verdict → Change → Verdict × Session
judgement_with s v c = judgement_of s (v, c)
