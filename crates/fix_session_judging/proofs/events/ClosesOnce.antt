-- A session closes exactly with a Close, and stays closed.
use Rattle.std.proofs.Common.{◌≡◌, ℕ, Bool, true, false, not, List, Option, Some, None, refl, sym}
use Rattle.std.specs.Prelude.{nat_lt, if◌then◌else◌}
use Rattle.std.proofs.lemmas.Bool.{false≢true}
use Rattle.spread_rules.specs.declared.event.Event.{Event}
use Rattle.spread_rules.specs.declared.event.Event.TheVariants as events
use Rattle.fix_session_judging.specs.declared.session.Logon.{Logon}
use Rattle.fix_session_judging.specs.declared.session.Running.{Running}
use Rattle.fix_session_judging.specs.declared.session.State.{State}
use Rattle.fix_session_judging.specs.declared.session.State.TheVariants as states
use Rattle.fix_session_judging.specs.declared.session.Session.{Session}
use Rattle.fix_session_judging.specs.declared.session.Verdict.{Verdict}
use Rattle.fix_session_judging.specs.declared.session.Verdict.TheVariants as verdicts
use Rattle.fix_session_judging.specs.View.{Numbered}
use Rattle.fix_session_judging.specs.code.View.{is_between, numbered, next_due, event_given, logon_in, is_logout, repeats}
use Rattle.fix_session_judging.specs.Steps.{running, closed, verdict_of, closes, opens, step_below, step_above, step_due, step_running, step_at, step_or_stay, judge, ended, is_closed, is_closing}
use Rattle.fix_session_kinds.proofs.TableInRange.{IsGiven}
use Rattle.fix_session_judging.proofs.events.InRangeAndOrder.{May, IsFair, view_fair}

-- a step closes a session exactly where it says a Close
abbrev IsHonest : Verdict × Session → Type 0
IsHonest x = is_closed x.1 ≡ is_closing x.0

opens_honest : (next : ℕ) (o : Option Logon) → IsHonest (opens next o)
opens_honest next None = refl
opens_honest next (Some l) = refl

below_honest : (r : Running) (duplicate : Bool) → IsHonest (step_below r duplicate)
below_honest r true = refl
below_honest r false = refl

above_honest : (r : Running) → IsHonest (step_above r)
above_honest r = by_asked r.gap_asked
  where
    by_asked : (asked : Bool) → IsHonest (if asked then (verdict_of None, running r) else
        (verdict_of (Some (events.Gap r.due)), running (record r { gap_asked = true })))
    by_asked true = refl
    by_asked false = refl

accepted_honest : (r : Running) (o : Option Event) → May IsGiven o → IsHonest (verdict_of o, running r)
accepted_honest r None h = refl
accepted_honest r (Some e) h = sym h.no_close

due_honest : (r : Running) (m : Numbered) → IsFair m → IsHonest (step_due r m)
due_honest r m fair = by_logout (is_logout m)
  where
    by_logout : (v : Bool) → IsHonest (if v then closes 1 else
        (verdict_of (event_given m), running (record r { due = (next_due m); gap_asked = false })))
    by_logout true = refl
    by_logout false = accepted_honest (record r { due = (next_due m); gap_asked = false }) (event_given m) fair.event

running_honest : (r : Running) (m : Numbered) → IsFair m → IsHonest (step_running r m)
running_honest r m fair = by_number (is_between m r.client r.host) (nat_lt m.number r.due) (nat_lt r.due m.number)
  where
    by_number : (same below above : Bool) → IsHonest (if not same then closes 4 else
        (if below then step_below r (repeats m) else (if above then step_above r else step_due r m)))
    by_number false below above = refl
    by_number true true above = below_honest r (repeats m)
    by_number true false true = above_honest r
    by_number true false false = due_honest r m fair

state_honest : (t : State) (m : Numbered) → is_closed (record { state = t }) ≡ false → IsFair m → IsHonest (step_at t m)
state_honest states.Before m opens_ fair = opens_honest (next_due m) (logon_in m)
state_honest (states.Running r) m opens_ fair = running_honest r m fair
state_honest states.Closed m opens_ fair = absurd (false≢true (sym opens_))

stay_honest : (s : Session) (o : Option Numbered) → is_closed s ≡ false → May IsFair o → IsHonest (step_or_stay s o)
stay_honest s None opens_ fair = opens_
stay_honest s (Some m) opens_ fair = state_honest s.state m opens_ fair

pub closes_with : (s : Session) (f : List ℕ) → is_closed s ≡ false → is_closed (judge s f).1 ≡ is_closing (judge s f).0
closes_with s f opens_ = stay_honest s (numbered f) opens_ (view_fair f)

pub closed_silent : (s : Session) (f : List ℕ) → is_closed s ≡ true → judge s f ≡ (verdicts.Nothing, s)
closed_silent s f = by_state s.state
  where
    by_view : (o : Option Numbered) → step_or_stay closed o ≡ (verdicts.Nothing, closed)
    by_view None = refl
    by_view (Some m) = refl

    by_state : (t : State) → is_closed (record { state = t }) ≡ true
        → judge (record { state = t }) f ≡ (verdicts.Nothing, record { state = t })
    by_state states.Before e = absurd (false≢true e)
    by_state (states.Running r) e = absurd (false≢true e)
    by_state states.Closed e = by_view (numbered f)

pub ended_closed : (s : Session) → is_closed (ended s).1 ≡ true
ended_closed s = by_state s.state
  where
    by_state : (t : State) → is_closed (ended (record { state = t })).1 ≡ true
    by_state states.Before = refl
    by_state (states.Running r) = refl
    by_state states.Closed = refl
