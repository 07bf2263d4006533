-- What a session still has left to say, through one step.
use Rattle.std.proofs.Common.{◌≡◌, ℕ, Bool, true, false, ◌||◌, List, [], ◌∷◌, ◌++◌, Option, Some, None, refl, sym, ap, ◌∙◌, append_assoc, append-nil}
use Rattle.std.specs.List.{list_any, cons_option}
use Rattle.std.proofs.lemmas.Bool.{false≢true}
use Rattle.spread_rules.specs.Journal.{is_close}
use Rattle.spread_rules.specs.declared.event.Event.{Event}
use Rattle.spread_rules.specs.declared.event.Event.TheVariants.{Close}
use Rattle.fix_wire_frames.specs.Frames.{frames}
use Rattle.fix_session_judging.specs.declared.session.State.{State}
use Rattle.fix_session_judging.specs.declared.session.State.TheVariants.{Before, Running, Closed}
use Rattle.fix_session_judging.specs.declared.session.Session.{Session}
use Rattle.fix_session_judging.specs.declared.session.Verdict.{Verdict}
use Rattle.fix_session_judging.specs.declared.session.Verdict.TheVariants.{Event as Says, Nothing}
use Rattle.fix_session_judging.specs.Steps.{judge, event_in, is_closed, is_closing, events_said, session_after, events_at_end}
use Rattle.fix_session_judging.proofs.events.StateOfPlaces.{cons_two}
use Rattle.fix_session_judging.proofs.events.ClosesOnce.{closed_silent, closes_with}
use Rattle.fix_wire_framer.specs.Pieces.{SplitsInto}
use Rattle.gate_link_sessions.specs.Owed.{whole_from, events_left}

-- what a session says to one message and then to others
pub whole_step : (s : Session) (f : List ℕ) (fs : List (List ℕ))
    → whole_from s (f ∷ fs) ≡ cons_option (event_in (judge s f).0) (whole_from (judge s f).1 fs)
whole_step s f fs = sym (cons_two (event_in (judge s f).0) (events_said (judge s f).1 fs)
    (events_at_end (session_after (judge s f).1 fs)))

end_silent : (s : Session) → is_closed s ≡ true → events_at_end s ≡ []
end_silent s = by_state s.state
  where
    by_state : (t : State) → is_closed (record { state = t }) ≡ true → events_at_end (record { state = t }) ≡ []
    by_state Before e = absurd (false≢true e)
    by_state (Running r) e = absurd (false≢true e)
    by_state Closed e = refl

-- a closed session has left to say nothing
pub owes_nothing : (s : Session) (fs : List (List ℕ)) → is_closed s ≡ true → whole_from s fs ≡ []
owes_nothing s [] shut = end_silent s shut
owes_nothing s (f ∷ fs) shut =
    whole_step s f fs
    ∙ (ap (λ r. cons_option (event_in r.0) (whole_from r.1 fs)) (closed_silent s f shut) ∙ owes_nothing s fs shut)

-- skipped bytes change nothing
pub owed_same : (s : Session) (a b : List ℕ) → SplitsInto a [] b → (more : List ℕ)
    → events_left s b more ≡ events_left s a more
owed_same s a b same more = ap (whole_from s) (sym (same more))

-- a message is passed that says this
pub owed_passed : (s : Session) (m a d : List ℕ) → SplitsInto a (m ∷ []) d → (more : List ℕ)
    → cons_option (event_in (judge s m).0) (events_left (judge s m).1 d more) ≡ events_left s a more
owed_passed s m a d heads more = sym (whole_step s m (frames (d ++ more))) ∙ ap (whole_from s) (sym (heads more))

-- a message that says nothing
pub owed_nothing : (s s' : Session) (m a d : List ℕ) → SplitsInto a (m ∷ []) d → s' ≡ (judge s m).1
    → event_in (judge s m).0 ≡ None
    → (more : List ℕ) → events_left s' d more ≡ events_left s a more
owed_nothing s s' m a d heads goes none more =
    ap (λ t. events_left t d more) goes ∙ (ap (λ o. cons_option o (events_left (judge s m).1 d more)) (sym none)
    ∙ owed_passed s m a d heads more)

-- a message that says this event
pub owed_event : (s s' : Session) (m a d : List ℕ) (e : Event) → SplitsInto a (m ∷ []) d → s' ≡ (judge s m).1
    → event_in (judge s m).0 ≡ Some e
    → (more : List ℕ) → e ∷ events_left s' d more ≡ events_left s a more
owed_event s s' m a d e heads goes some more =
    ap (λ t. e ∷ events_left t d more) goes ∙ (ap (λ o. cons_option o (events_left (judge s m).1 d more)) (sym some)
    ∙ owed_passed s m a d heads more)

-- bytes put behind the held ones come before those that follow
pub owed_put : (s : Session) (held piece more : List ℕ)
    → events_left s (held ++ piece) more ≡ events_left s held (piece ++ more)
owed_put s held piece more = ap (λ (bs : List ℕ). whole_from s (frames bs)) (append_assoc held piece more)

-- where no message stands behind skipped bytes, none stood before
pub none_before : (a b : List ℕ) → SplitsInto a [] b → frames b ≡ [] → frames a ≡ []
none_before a b same none = ap frames (sym (append-nil a)) ∙ (same [] ∙ (ap frames (append-nil b) ∙ none))

-- an open session's end
pub end_says : (s : Session) → is_closed s ≡ false → events_at_end s ≡ Close 5 ∷ []
end_says s = by_state s.state
  where
    by_state : (t : State) → is_closed (record { state = t }) ≡ false
        → events_at_end (record { state = t }) ≡ Close 5 ∷ []
    by_state Before e = refl
    by_state (Running r) e = refl
    by_state Closed e = absurd (false≢true (sym e))

or_left : (a b : Bool) → a ≡ true → (a || b) ≡ true
or_left true b h = refl
or_left false b h = absurd (false≢true h)

or_right : (a b : Bool) → b ≡ true → (a || b) ≡ true
or_right true b h = refl
or_right false b h = h

with_event : (v : Verdict) (es : List Event) → is_closing v ≡ true
    → list_any is_close (cons_option (event_in v) es) ≡ true
with_event Nothing es h = absurd (false≢true h)
with_event (Says e) es h = or_left (is_close e) (list_any is_close es) h

with_rest : (o : Option Event) (es : List Event) → list_any is_close es ≡ true
    → list_any is_close (cons_option o es) ≡ true
with_rest None es h = h
with_rest (Some e) es h = or_right (is_close e) (list_any is_close es) h

-- all events of a stream end with a close
pub whole_has_close : (s : Session) (fs : List (List ℕ)) → is_closed s ≡ false
    → list_any is_close (whole_from s fs) ≡ true
whole_has_close s [] opens = ap (list_any is_close) (end_says s opens)
whole_has_close s (f ∷ fs) opens = ap (list_any is_close) (whole_step s f fs)
    ∙ by_closed (is_closed (judge s f).1) refl (whole_has_close (judge s f).1 fs)
  where
    by_closed : (v : Bool) → is_closed (judge s f).1 ≡ v
        → (is_closed (judge s f).1 ≡ false → list_any is_close (whole_from (judge s f).1 fs) ≡ true)
        → list_any is_close (cons_option (event_in (judge s f).0) (whole_from (judge s f).1 fs)) ≡ true
    by_closed true h ih = with_event (judge s f).0 (whole_from (judge s f).1 fs) (sym (closes_with s f opens) ∙ h)
    by_closed false h ih = with_rest (event_in (judge s f).0) (whole_from (judge s f).1 fs) (ih h)

-- where no message stands at the end of a stream, Close 5 is left
pub end_owed : (s : Session) (held : List ℕ) → is_closed s ≡ false → frames held ≡ []
    → events_left s held [] ≡ Close 5 ∷ []
end_owed s held opens none = ap (whole_from s) (ap frames (append-nil held) ∙ none) ∙ end_says s opens
