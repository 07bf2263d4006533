-- A session's state is what the places before it make of it.
use Rattle.std.proofs.Common.{◌≡◌, ℕ, zero, suc, ◌+◌, ◌<◌, ◌≤◌, Bool, true, false, cond, ◌&&◌, ◌||◌, not, eqb, ltb, List, [], ◌∷◌, ◌++◌, Option, Some, None, is_some, option_map, length, drop, refl, sym, ap, ◌∙◌, subst, arith, add-one, ◌⊎◌, inl, inr}
use Rattle.std.specs.Prelude.{slice_get, filter_map, option_and_then}
use Rattle.std.specs.Bool.{then_some}
use Rattle.std.specs.Option.{option_map_or, option_or}
use Rattle.std.specs.List.{cons_option, enumerate_from}
use Rattle.std.proofs.lemmas.Bool.{false≢true, cases_lt, and_parts}
use Rattle.std.proofs.Math.Bool.{or-false}
use Rattle.std.proofs.lemmas.Bool.Decides.{nat_tests}
use Rattle.std.proofs.lemmas.Option.{same_Some}
use Rattle.spread_rules.specs.declared.event.Event.{Event}
use Rattle.spread_rules.specs.declared.event.Event.TheVariants as variant
use Rattle.fix_session_judging.specs.declared.session.Logon.{Logon}
use Rattle.fix_session_judging.specs.declared.session.Session.{Session}
use Rattle.fix_session_judging.specs.View.{Numbered}
use Rattle.fix_session_judging.specs.code.View.{is_between, numbered, next_due, event_given, logon_in, is_logout, repeats}
use Rattle.fix_session_judging.specs.Places.{closing, is_accepted, live, due, has_open_gap, event, message_events}
use Rattle.fix_session_judging.specs.code.Places.{session_logon}
use Rattle.fix_session_judging.specs.code.Streams.{whole_of}
use Rattle.fix_session_judging.specs.Steps as steps
use Rattle.fix_session_judging.specs.Steps.{step, judge, event_in, events_said, session_after, events_at_end, new_session, closed}

-- a live message after the first, by the session's Logon: it is accepted; why it closes the session
abbrev is_next : Option Logon → ℕ → Numbered → Bool
is_next o due m = option_map_or (λ l. is_between m l.client l.host) o false && eqb m.number due

abbrev closing_later : Option Logon → ℕ → Numbered → Option ℕ
closing_later o due m =
    cond (not (option_map_or (λ l. is_between m l.client l.host) o false)) (Some 4)
    (cond (ltb m.number due && not (repeats m)) (Some 2) (then_some (eqb m.number due && (is_logout m)) 1))

-- the message at a place: it closes the session
abbrev closes_at : List Numbered → ℕ → ℕ → Option Numbered → Bool
closes_at ms p due o = is_some (option_and_then (closing ms p due) o)

-- the number due after it, and whether a gap is open then
abbrev due_next : List Numbered → ℕ → ℕ → Option Numbered → ℕ
due_next ms p d o = option_map_or (λ m. cond (is_accepted ms p d m) (next_due m) d) o d

abbrev open_next : List Numbered → ℕ → ℕ → Bool → Option Numbered → Bool
open_next ms p d a o = option_map_or (λ m. not (is_accepted ms p d m) && (a || ltb d m.number)) o false

-- the events of the places from p on
abbrev events_from : List Numbered → ℕ → List Numbered → List Event
events_from ms p later = filter_map (λ place. event ms place.0 place.1) (enumerate_from p later)

-- a running session, by what it is between, the due number, and whether a gap was asked
abbrev runs : Logon → ℕ → Bool → Session
runs ids d a = steps.running (record { client = ids.client; host = ids.host; due = d; gap_asked = a })

abbrev runs_or : Option Logon → ℕ → Bool → Session
runs_or None d a = closed
runs_or (Some ids) d a = runs ids d a

-- one step, with the verdict read as an event
abbrev says : Session → Numbered → Option Event × Session
says s m = (event_in (step s m).0, (step s m).1)

number_case : (n d : ℕ) → ((ltb n d ≡ true) × (ltb d n ≡ false) × (eqb n d ≡ false)) ⊎
    (((ltb n d ≡ false) × (ltb d n ≡ true) × (eqb n d ≡ false)) ⊎
    ((ltb n d ≡ false) × (ltb d n ≡ false) × (eqb n d ≡ true)))
number_case n d = by_lt (cases_lt n d) (cases_lt d n)
  where
    by_lt : (n < d) ⊎ (d ≤ n) → (d < n) ⊎ (n ≤ d) → ((ltb n d ≡ true) × (ltb d n ≡ false) × (eqb n d ≡ false)) ⊎
        (((ltb n d ≡ false) × (ltb d n ≡ true) × (eqb n d ≡ false)) ⊎
        ((ltb n d ≡ false) × (ltb d n ≡ false) × (eqb n d ≡ true)))
    by_lt (inl l) g = inl (grind (arith, nat_tests), grind (arith, nat_tests), grind (arith, nat_tests))
    by_lt (inr l) (inl g) = inr (inl (grind (arith, nat_tests), grind (arith, nat_tests), grind (arith, nat_tests)))
    by_lt (inr l) (inr g) = inr (inr (grind (arith, nat_tests), grind (arith, nat_tests), grind (arith, nat_tests)))

event_in_of : (o : Option Event) → event_in (steps.verdict_of o) ≡ o
event_in_of None = refl
event_in_of (Some e) = refl

-- the state that the places before p make
abbrev state_at : List Numbered → ℕ → Session
state_at ms zero = new_session
state_at ms (suc p) = cond (live ms (suc p)) (runs_or (session_logon ms) (due ms (suc p)) (has_open_gap ms (suc p)))
    closed

first_step : (m : Numbered) (ms : List Numbered) (o : Option Logon) → (logon_in m) ≡ o
    → says new_session m ≡ (event (m ∷ ms) 0 m, state_at (m ∷ ms) 1)
first_step m ms None e = rw e
first_step m ms (Some o) e = rw e

-- what the places say of a live message after the first
abbrev placed : Option Logon → ℕ → Bool → Numbered → Option (Event)
placed parties d a m = option_or (option_map variant.Close (closing_later parties d m))
    (cond (is_next parties d m) ((event_given m)) (then_some (ltb d m.number && not a) (variant.Gap d)))

-- one step of a running session, and what the places say
step_is : (parties : Logon) (d : ℕ) (a : Bool) (m : Numbered) (l : Bool) (d2 : ℕ) (a2 : Bool) →
    l ≡ not (is_some (closing_later (Some parties) d m)) →
    (is_next (Some parties) d m ≡ true → (d2 ≡ (next_due m)) × (a2 ≡ false)) →
    (is_next (Some parties) d m ≡ false → (d2 ≡ d) × (a2 ≡ (a || ltb d m.number))) →
    says (runs parties d a) m ≡ (placed (Some parties) d a m, cond l (runs parties d2 a2) closed)
step_is parties d a m l d2 a2 lives taken passed =
    by_same (is_between m parties.client parties.host) refl (number_case m.number d)
  where
    by_below : (dup : Bool) → (repeats m) ≡ dup → is_between m parties.client parties.host ≡ true
        → (ltb m.number d ≡ true) × (ltb d m.number ≡ false) × (eqb m.number d ≡ false)
        → says (runs parties d a) m ≡ (placed (Some parties) d a m, cond l (runs parties d2 a2) closed)
    by_below true dup s (lt, gt, eq) =
        let other = passed (simp (s, eq)) in
        let same : a2 ≡ a = other.1 ∙ ap (λ x. a || x) gt ∙ or-false a in
        let alive : l ≡ true = simp (s, lt, eq, dup) at lives in
        simp (s, lt, gt, eq, dup, alive, other.0, same)
    by_below false dup s (lt, gt, eq) =
        let dead : l ≡ false = simp (s, lt, eq, dup) at lives in
        simp (s, lt, gt, eq, dup, dead)

    by_above : (asked : Bool) → a ≡ asked → is_between m parties.client parties.host ≡ true → (ltb m.number d ≡ false)
        × (ltb d m.number ≡ true) × (eqb m.number d ≡ false)
        → says (runs parties d a) m ≡ (placed (Some parties) d a m, cond l (runs parties d2 a2) closed)
    by_above true e s (lt, gt, eq) =
        let other = passed (simp (s, eq)) in
        let same : a2 ≡ true = other.1 ∙ ap (λ x. x || ltb d m.number) e in
        let alive : l ≡ true = simp (s, lt, eq) at lives in
        simp (s, lt, gt, eq, alive, other.0, same, e)
    by_above false e s (lt, gt, eq) =
        let other = passed (simp (s, eq)) in
        let same : a2 ≡ true = other.1 ∙ ap (λ x. x || ltb d m.number) e ∙ gt in
        let alive : l ≡ true = simp (s, lt, eq) at lives in
        simp (s, lt, gt, eq, alive, other.0, same, e)

    by_due : (ends : Bool) → (is_logout m) ≡ ends → is_between m parties.client parties.host ≡ true
        → (ltb m.number d ≡ false) × (ltb d m.number ≡ false) × (eqb m.number d ≡ true)
        → says (runs parties d a) m ≡ (placed (Some parties) d a m, cond l (runs parties d2 a2) closed)
    by_due true e s (lt, gt, eq) =
        let dead : l ≡ false = simp (s, lt, eq, e) at lives in
        simp (s, lt, gt, eq, dead, e)
    by_due false e s (lt, gt, eq) =
        let next = taken (simp (s, eq)) in
        let alive : l ≡ true = simp (s, lt, eq, e) at lives in
        simp (s, lt, gt, eq, alive, next.0, next.1, e, event_in_of (event_given m))

    by_same : (v : Bool) → is_between m parties.client parties.host ≡ v
        → ((ltb m.number d ≡ true) × (ltb d m.number ≡ false) × (eqb m.number d ≡ false)) ⊎
        (((ltb m.number d ≡ false) × (ltb d m.number ≡ true) × (eqb m.number d ≡ false)) ⊎
        ((ltb m.number d ≡ false) × (ltb d m.number ≡ false) × (eqb m.number d ≡ true)))
        → says (runs parties d a) m ≡ (placed (Some parties) d a m, cond l (runs parties d2 a2) closed)
    by_same false s n = let dead : l ≡ false = rw s at lives in rw (s, dead)
    by_same true s (inl n) = by_below (repeats m) refl s n
    by_same true s (inr (inl n)) = by_above a refl s n
    by_same true s (inr (inr n)) = by_due (is_logout m) refl s n

-- where a place after the first is live, the first message opened the session
opened_some : (m : Numbered) (ms : List Numbered) (p : ℕ) → live (m ∷ ms) (suc p) ≡ true → (o : Logon)
    × (session_logon (m ∷ ms) ≡ Some o)
opened_some m ms zero e = by_opens (logon_in m) refl
  where
    by_opens : (o : Option Logon) → (logon_in m) ≡ o → (q : Logon) × (session_logon (m ∷ ms) ≡ Some q)
    by_opens (Some o) h = (o, h)
    by_opens None h = absurd (false≢true (simp h at e))
opened_some m ms (suc p) e = opened_some m ms p (and_parts _ _ e).0

later_step : (x : Numbered) (xs : List Numbered) (p : ℕ) (m : Numbered) → slice_get xs p ≡ Some m
    → says (state_at (x ∷ xs) (suc p)) m ≡ (event (x ∷ xs) (suc p) m, state_at (x ∷ xs) (suc (suc p)))
later_step x xs p m get = by_live (live (x ∷ xs) (suc p)) refl
  where
    by_live : (v : Bool) → live (x ∷ xs) (suc p) ≡ v → says (state_at (x ∷ xs) (suc p)) m ≡
        (event (x ∷ xs) (suc p) m, state_at (x ∷ xs) (suc (suc p)))
    by_live false e = simp e
    by_live true e =
        let ms : List Numbered = x ∷ xs in
        let q : ℕ = suc p in
        let o = opened_some x xs p e in
        let parties = o.0 in
        let op : session_logon ms ≡ Some parties = o.1 in
        let d : ℕ = due ms q in
        let a : Bool = has_open_gap ms q in
        let l : Bool = live ms (suc q) in
        let d2 : ℕ = due ms (suc q) in
        let a2 : Bool = has_open_gap ms (suc q) in
        let state : state_at ms q ≡ runs parties d a = ap (λ v. cond v (runs_or (session_logon ms) d a) closed) e
        ∙ ap (λ h. runs_or h d a) op in
        let placed_is : event ms q m ≡ placed (Some parties) d a m =
        ap (λ v. cond v (placed (session_logon ms) d a m) None) e ∙ ap (λ h. placed h d a m) op in
        let then : state_at ms (suc q) ≡ cond l (runs parties d2 a2) closed =
        ap (λ h. cond l (runs_or h d2 a2) closed) op in
        let lives : l ≡ not (is_some (closing_later (Some parties) d m)) =
        ap (λ v. v && not (closes_at ms q d (slice_get ms q))) e ∙ ap (λ g. not (closes_at ms q d g)) get
        ∙ ap (λ h. not (is_some (closing_later h d m))) op in
        let next_is : d2 ≡ cond (is_next (Some parties) d m) (next_due m) d =
        ap (λ g. due_next ms q d g) get ∙ ap (λ h. cond (is_next h d m) (next_due m) d) op in
        let open_is : a2 ≡ (not (is_next (Some parties) d m) && (a || ltb d m.number)) =
        ap (λ g. open_next ms q d a g) get ∙ ap (λ h. not (is_next h d m) && (a || ltb d m.number)) op in
        let taken : is_next (Some parties) d m ≡ true → (d2 ≡ (next_due m)) × (a2 ≡ false) = λ t.
        (next_is ∙ ap (λ v. cond v (next_due m) d) t, open_is ∙ ap (λ v. not v && (a || ltb d m.number)) t) in
        let passed : is_next (Some parties) d m ≡ false → (d2 ≡ d) × (a2 ≡ (a || ltb d m.number)) = λ f.
        (next_is ∙ ap (λ v. cond v (next_due m) d) f, open_is ∙ ap (λ v. not v && (a || ltb d m.number)) f) in
        ap (λ s. says s m) state ∙ step_is parties d a m l d2 a2 lives taken passed
        ∙ ap (λ v. (v, cond l (runs parties d2 a2) closed)) (sym placed_is) ∙ ap (λ s. (event ms q m, s)) (sym then)

get_front : (ms : List Numbered) (p : ℕ) (m : Numbered) (later : List Numbered) → drop p ms ≡ m ∷ later
    → (slice_get ms p ≡ Some m) × (drop (suc p) ms ≡ later)
get_front [] zero m later e = cc
get_front [] (suc p) m later e = cc
get_front (x ∷ ms) zero m later e = (cc, cc)
get_front (x ∷ ms) (suc p) m later e = get_front ms p m later e

one_step : (ms : List Numbered) (p : ℕ) (m : Numbered) → slice_get ms p ≡ Some m
    → says (state_at ms p) m ≡ (event ms p m, state_at ms (suc p))
one_step [] p m e = cc
one_step (x ∷ xs) zero m e = let same = same_Some _ _ e in
    subst (λ y. says new_session y ≡ (event (x ∷ xs) 0 y, state_at (x ∷ xs) 1)) same (first_step x xs (logon_in x) refl)
one_step (x ∷ xs) (suc p) m e = later_step x xs p m e

-- what a session says to messages, and the session after them
abbrev says_all : Session → List Numbered → List Event
says_all s [] = []
says_all s (m ∷ ms) = cons_option (says s m).0 (says_all (says s m).1 ms)

abbrev after_all : Session → List Numbered → Session
after_all s [] = s
after_all s (m ∷ ms) = after_all (says s m).1 ms

says_is : (ms later : List Numbered) (p : ℕ) → drop p ms ≡ later
    → says_all (state_at ms p) later ≡ events_from ms p later
says_is ms [] p e = refl
says_is ms (m ∷ later) p e =
    let front = get_front ms p m later e in
    let s = one_step ms p m front.0 in
    ap (λ r. cons_option r.0 (says_all r.1 later)) s ∙ ap (λ t. cons_option (event ms p m) t)
    (says_is ms later (suc p) front.1)
    ∙ ap (λ k. cons_option (event ms p m) (events_from ms k later)) (sym (add-one p))

after_is : (ms later : List Numbered) (p n : ℕ) → drop p ms ≡ later → p + length later ≡ n
    → after_all (state_at ms p) later ≡ state_at ms n
after_is ms [] p n e l = let same : p ≡ n = omega (arith, l) in ap (λ k. state_at ms k) same
after_is ms (m ∷ later) p n e l =
    let front = get_front ms p m later e in
    let s = one_step ms p m front.0 in
    ap (λ r. after_all r.1 later) s ∙ after_is ms later (suc p) n front.1 (omega arith)

end_is : (ms : List Numbered) → events_at_end (state_at ms (length ms)) ≡ cond (live ms (length ms))
    (variant.Close 5 ∷ []) []
end_is [] = refl
end_is (x ∷ xs) = by_live (live (x ∷ xs) (suc (length xs))) refl
  where
    by_live : (v : Bool) → live (x ∷ xs) (suc (length xs)) ≡ v
        → events_at_end (state_at (x ∷ xs) (suc (length xs))) ≡ cond (live (x ∷ xs) (suc (length xs)))
        (variant.Close 5 ∷ []) []
    by_live false e = ap (λ v. events_at_end (cond v (runs_or (session_logon (x ∷ xs)) (due (x ∷ xs) (suc (length xs)))
        (has_open_gap (x ∷ xs) (suc (length xs)))) closed)) e ∙ sym (ap (λ v. cond v (variant.Close 5 ∷ []) []) e)
    by_live true e =
        let o = opened_some x xs (length xs) e in
        ap (λ v. events_at_end (cond v (runs_or (session_logon (x ∷ xs)) (due (x ∷ xs) (suc (length xs)))
        (has_open_gap (x ∷ xs) (suc (length xs)))) closed)) e
        ∙ ap (λ h. events_at_end (runs_or h (due (x ∷ xs) (suc (length xs))) (has_open_gap (x ∷ xs) (suc (length xs)))))
        o.1
        ∙ sym (ap (λ v. cond v (variant.Close 5 ∷ []) []) e)

-- frames whose number can't be read say nothing and change nothing
events_said_messages : (s : Session) (fs : List (List ℕ)) → events_said s fs ≡ says_all s (filter_map numbered fs)
events_said_messages s [] = refl
events_said_messages s (f ∷ fs) = by_view (numbered f) (λ t. events_said_messages t fs)
  where
    by_view : (o : Option Numbered) → ((t : Session) → events_said t fs ≡ says_all t (filter_map numbered fs)) →
        cons_option (event_in (steps.step_or_stay s o).0) (events_said (steps.step_or_stay s o).1 fs) ≡ says_all s
        (cons_option o (filter_map numbered fs))
    by_view None ih = ih s
    by_view (Some m) ih = ap (cons_option (event_in (step s m).0)) (ih (step s m).1)

after_messages : (s : Session) (fs : List (List ℕ)) → session_after s fs ≡ after_all s (filter_map numbered fs)
after_messages s [] = refl
after_messages s (f ∷ fs) = by_view (numbered f) (λ t. after_messages t fs)
  where
    by_view : (o : Option Numbered) → ((t : Session) → session_after t fs ≡ after_all t (filter_map numbered fs)) →
        session_after (steps.step_or_stay s o).1 fs ≡ after_all s (cons_option o (filter_map numbered fs))
    by_view None ih = ih s
    by_view (Some m) ih = ih (step s m).1

pub events_law : (fs : List (List ℕ)) → events_said new_session fs ≡ message_events (filter_map numbered fs)
events_law fs = events_said_messages new_session fs ∙ says_is (filter_map numbered fs) (filter_map numbered fs) 0 refl

pub whole_law : (fs : List (List ℕ)) → events_said new_session fs
    ++ events_at_end (session_after new_session fs) ≡ whole_of fs
whole_law fs =
    let ms = filter_map numbered fs in
    ap (λ t. t ++ events_at_end (session_after new_session fs)) (events_law fs)
    ∙ ap (λ t. message_events ms ++ events_at_end t) (after_messages new_session fs
    ∙ after_is ms ms 0 (length ms) refl (omega arith))
    ∙ ap (λ t. message_events ms ++ t) (end_is ms)

pub closed_law : (fs : List (List ℕ)) → events_at_end (session_after new_session fs) ≡ cond
    (live (filter_map numbered fs) (length (filter_map numbered fs))) (variant.Close 5 ∷ []) []
closed_law fs = let ms = filter_map numbered fs in
    ap events_at_end (after_messages new_session fs ∙ after_is ms ms 0 (length ms) refl (omega arith)) ∙ end_is ms

pub cons_two : (o : Option Event) (xs ys : List Event) → cons_option o (xs ++ ys) ≡ cons_option o xs ++ ys
cons_two None xs ys = refl
cons_two (Some e) xs ys = refl

pub said_two : (s : Session) (fs gs : List (List ℕ)) → events_said s (fs ++ gs) ≡ events_said s fs
    ++ events_said (session_after s fs) gs
said_two s [] gs = refl
said_two s (f ∷ fs) gs =
    ap (cons_option (event_in (judge s f).0)) (said_two (judge s f).1 fs gs)
    ∙ cons_two (event_in (judge s f).0) (events_said (judge s f).1 fs) (events_said (session_after (judge s f).1 fs) gs)

pub after_two : (s : Session) (fs gs : List (List ℕ))
    → session_after s (fs ++ gs) ≡ session_after (session_after s fs) gs
after_two s [] gs = refl
after_two s (f ∷ fs) gs = after_two (judge s f).1 fs gs
