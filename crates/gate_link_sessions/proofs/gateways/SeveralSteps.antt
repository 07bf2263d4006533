-- A gateway over several messages at once: as many steps in a row.
use Rattle.std.proofs.Common.{◌≡◌, ℕ, zero, suc, ◌<◌, Bool, true, false, cond, ◌||◌, List, [], ◌∷◌, ◌++◌, length, refl, sym, ap, ◌∙◌, arith, append_assoc}
use Rattle.std.specs.List.{list_any, cons_option}
use Rattle.std.proofs.lemmas.List.Folds.{list_any-append}
use Rattle.spread_rules.specs.Journal.{is_close}
use Rattle.spread_rules.specs.declared.event.Event.{Event}
use Rattle.fix_wire_frames.specs.Frames.{frames}
use Rattle.fix_wire_framer.specs.Pieces.{SplitsInto}
use Rattle.fix_session_judging.specs.declared.session.Session.{Session}
use Rattle.fix_session_judging.specs.declared.session.Verdict.{Verdict}
use Rattle.fix_session_judging.specs.declared.session.Verdict.TheVariants.{Event as Says, Nothing}
use Rattle.fix_session_judging.specs.Steps.{judge, event_in, is_closed, is_closing, events_said, session_after, events_at_end}
use Rattle.fix_session_judging.specs.Ahead.{up_to_close}
use Rattle.fix_session_judging.proofs.events.StateOfPlaces.{said_two, after_two}
use Rattle.fix_session_judging.proofs.events.ClosesOnce.{closed_silent, closes_with}
use Rattle.gate_link_sessions.specs.Owed.{whole_from, events_left}

-- what a session says to some messages and then to others
whole_two : (s : Session) (fs gs : List (List ℕ)) → whole_from s (fs ++ gs) ≡ events_said s fs
    ++ whole_from (session_after s fs) gs
whole_two s fs gs =
    ap (λ t. t ++ events_at_end (session_after s (fs ++ gs))) (said_two s fs gs)
    ∙ (ap (λ t. (events_said s fs ++ events_said (session_after s fs) gs) ++ events_at_end t) (after_two s fs gs)
    ∙ append_assoc (events_said s fs) (events_said (session_after s fs) gs)
    (events_at_end (session_after (session_after s fs) gs)))

-- the events of messages go from what is owed
pub owed_many : (s t : Session) (fs : List (List ℕ)) (a b : List ℕ) → SplitsInto a fs b → t ≡ session_after s fs
    → (more : List ℕ) → events_said s fs ++ events_left t b more ≡ events_left s a more
owed_many s t fs a b left is more =
    ap (λ u. events_said s fs ++ events_left u b more) is
    ∙ (sym (whole_two s fs (frames (b ++ more))) ∙ ap (whole_from s) (sym (left more)))

-- where messages say nothing, what is owed stays
pub owed_silent : (s t : Session) (fs : List (List ℕ)) (a b : List ℕ) → SplitsInto a fs b → t ≡ session_after s fs
    → events_said s fs ≡ [] → (more : List ℕ) → events_left t b more ≡ events_left s a more
owed_silent s t fs a b left is none more =
    ap (λ (es : List Event). es ++ events_left t b more) (sym none) ∙ owed_many s t fs a b left is more

-- ---- closed exactly with a close

closed_stays : (s : Session) (fs : List (List ℕ)) → is_closed s ≡ true → session_after s fs ≡ s
closed_stays s [] shut = refl
closed_stays s (f ∷ fs) shut = ap (λ r. session_after r.1 fs) (closed_silent s f shut) ∙ closed_stays s fs shut

any_of : (v : Verdict) (es : List Event) → list_any is_close (cons_option (event_in v) es) ≡
    (is_closing v || list_any is_close es)
any_of Nothing es = refl
any_of (Says e) es = refl

closes_after : (s : Session) (fs : List (List ℕ)) → is_closed s ≡ false
    → is_closed (session_after s fs) ≡ list_any is_close (events_said s fs)
closes_after s [] opens = opens
closes_after s (f ∷ fs) opens =
    by_closed (is_closed (judge s f).1) refl (closes_after (judge s f).1 fs)
    ∙ sym (any_of (judge s f).0 (events_said (judge s f).1 fs))
  where
    by_closed : (v : Bool) → is_closed (judge s f).1 ≡ v
        → (is_closed (judge s f).1 ≡ false → is_closed (session_after (judge s f).1 fs) ≡ list_any is_close
        (events_said (judge s f).1 fs))
        → is_closed (session_after (judge s f).1 fs) ≡ (is_closing (judge s f).0 || list_any is_close
        (events_said (judge s f).1 fs))
    by_closed true h ih =
        ap is_closed (closed_stays (judge s f).1 fs h) ∙ (h
        ∙ sym (ap (λ b. b || list_any is_close (events_said (judge s f).1 fs)) (sym (closes_with s f opens) ∙ h)))
    by_closed false h ih =
        ih h ∙ sym (ap (λ b. b || list_any is_close (events_said (judge s f).1 fs)) (sym (closes_with s f opens) ∙ h))

-- a gateway is closed after messages exactly where a close was sent then
pub closed_later : (s t : Session) (fs : List (List ℕ)) (before after : List Event) → is_closed s ≡ false
    → is_closed s ≡ list_any is_close before → t ≡ session_after s fs → after ≡ before ++ events_said s fs
    → is_closed t ≡ list_any is_close after
closed_later s t fs before after opens was is more =
    ap is_closed is
    ∙ (closes_after s fs opens
    ∙ (ap (λ b. b || list_any is_close (events_said s fs)) (sym opens ∙ was)
    ∙ (sym (list_any-append is_close before (events_said s fs)) ∙ ap (list_any is_close) (sym more))))

-- ---- no message stands

pub none_first : (n : ℕ) (s : Session) (fs : List (List ℕ)) → is_closed s ≡ false → 0 < n
    → length (up_to_close n s fs) ≡ 0 → fs ≡ []
none_first zero s fs opens some none = absurd (omega (arith, some))
none_first (suc n) s [] opens some none = refl
none_first (suc n) s (f ∷ fs) opens some none =
    let all = ap (λ (v : Bool). length (cond v [] (f ∷ up_to_close n (judge s f).1 fs))) (sym opens) ∙ none in
    absurd (omega (arith, all))

-- a session of which messages were judged is open
pub open_where_judged : (most : ℕ) (s : Session) (fs : List (List ℕ)) → 0 < length (up_to_close most s fs)
    → is_closed s ≡ false
open_where_judged zero s fs some = absurd (omega (arith, some))
open_where_judged (suc n) s [] some = absurd (omega (arith, some))
open_where_judged (suc n) s (f ∷ fs) some = by_closed (is_closed s) refl some
  where
    by_closed : (v : Bool) → is_closed s ≡ v → 0 < length (cond v [] (f ∷ up_to_close n (judge s f).1 fs))
        → is_closed s ≡ false
    by_closed true h more = absurd (omega (arith, more))
    by_closed false h more = h
