-- What a session says is in range and in order.
use Rattle.std.proofs.Common.{◌≡◌, ℕ, ◌<◌, ◌≤◌, Bool, true, false, ◌&&◌, not, List, [], ◌∷◌, ◌++◌, Option, Some, None, option_map, refl, sym, ap, ◌∙◌, subst, arith}
use Rattle.std.specs.Prelude.{nat_le, nat_lt, if◌then◌else◌, Result, Ok, Err, option_and_then}
use Rattle.std.specs.Bool.{then_some}
use Rattle.std.specs.Result.{result_ok}
use Rattle.std.specs.List.{All, cons_option}
use Rattle.std.proofs.lemmas.Bool.Decides.{nat_tests}
use Rattle.std.proofs.lemmas.List.Elements.{All-nil, All-cons, All-head, All-tail}
use Rattle.spread_rules_ids.specs.Ids.{is_id, id_of}
use Rattle.spread_rules.specs.Journal.{IsNumber, FitsEvent, is_logon, is_close, is_in_order}
use Rattle.spread_rules.specs.code.Journal.{is_end, is_running, starts_in_order}
use Rattle.spread_rules.proofs.journals.SessionParts.{order_by_event}
use Rattle.spread_rules.specs.declared.event.Event.{Event}
use Rattle.spread_rules.specs.declared.event.Event.TheVariants as events
use Rattle.fix_wire_values.specs.declared.values.Unread.TheVariants.{Range, Format}
use Rattle.fix_wire_values.specs.Digits.{number_of}
use Rattle.fix_wire_values.specs.Values.{is_number, within, number_in}
use Rattle.fix_wire_frames.specs.Messages.{get, number}
use Rattle.fix_wire_frames.specs.code.Messages.{given_number}
use Rattle.fix_session_kinds.specs.declared.table.Meaning.{Meaning}
use Rattle.fix_session_kinds.specs.declared.table.Meaning.TheVariants.{Nothing, Says, GapFill}
use Rattle.fix_session_judging.specs.declared.session.Logon.{Logon}
use Rattle.fix_session_judging.specs.declared.session.Running.{Running}
use Rattle.fix_session_judging.specs.declared.session.State.{State}
use Rattle.fix_session_judging.specs.declared.session.State.TheVariants as states
use Rattle.fix_session_judging.specs.declared.session.Session.{Session}
use Rattle.fix_session_judging.specs.declared.session.Verdict.{Verdict}
use Rattle.fix_session_kinds.specs.Table.{meaning_of_message}
use Rattle.fix_session_judging.specs.code.Openings.{◌>>=◌, is_opening, given_id, logon_by_parts}
use Rattle.fix_session_judging.specs.View.{Numbered, logon_of, event_of_accepted, due_after_accepted}
use Rattle.fix_session_judging.specs.code.View.{is_between, view_with, numbered, next_due, event_given, logon_in, is_logout, repeats}
use Rattle.fix_session_judging.specs.Steps.{new_session, running, closed, verdict_of, logon_event, closes, opens, step_below, step_above, step_due, step_running, step_at, step_or_stay, judge, event_in, events_said, session_after, events_at_end}
use Rattle.fix_session_kinds.proofs.TableInRange.{Holds, IsGiven, FitsMeaning, meaning_holds}
use Rattle.fix_session_judging.proofs.events.StateOfPlaces.{cons_two}
use Rattle.fix_session_judging.proofs.events.OpeningInParts.{logon_is}

abbrev pub May : {A : Type 0} → (A → Type 0) → Option A → Type 0
May P None = Unit {0}
May P (Some x) = P x

chained : {A B : Type 0} (P : A → Type 0) (Q : B → Type 0) (o : Option A) (f : A → Option B) → May P o
    → ((x : A) → P x → May Q (f x)) → May Q (o >>= f)
chained P Q None f h g = tt
chained P Q (Some x) f h g = g x h

-- ---- the numbered of a frame

abbrev pub FitsLogon : Logon → Type 0
FitsLogon l = FitsEvent (logon_event l)

-- what a session sees of a message is in range
pub record IsFair (m : Numbered) : Type 0 where
  pub number : IsNumber m.number
  pub next : 1 ≤ (next_due m)
  pub event : May IsGiven (event_given m)
  pub logon : May FitsLogon (logon_in m)

id_holds : (text : List ℕ) → May (λ id. is_id id ≡ true) (id_of text)
id_holds text = by_test (is_id text) refl
  where
    by_test : (v : Bool) → is_id text ≡ v → May (λ id. is_id id ≡ true) (if v then Some text else None)
    by_test true e = e
    by_test false e = tt

any_text : (o : Option (List ℕ)) → May (λ t. Unit {0}) o
any_text None = tt
any_text (Some t) = tt

id_in_holds : (tag : ℕ) (m : List ℕ) → May (λ id. is_id id ≡ true) (given_id tag m)
id_in_holds tag m = chained (λ t. Unit {0}) (λ id. is_id id ≡ true) (get tag m) id_of (any_text (get tag m))
    (λ t h. id_holds t)

within_holds : (n : ℕ) → May (λ x. x ≤ 999999999) (result_ok (within 999999999 n))
within_holds n = by_test (nat_le n 999999999) refl
  where
    by_test : (v : Bool) → nat_le n 999999999 ≡ v → May (λ x. x ≤ 999999999) (result_ok (if v then Ok n else Err Range))
    by_test true e = grind (arith, nat_tests)
    by_test false e = tt

read_holds : (text : List ℕ) → May (λ x. x ≤ 999999999) (result_ok (number_in text))
read_holds text = by_test (is_number text)
  where
    by_test : (v : Bool) → May (λ x. x ≤ 999999999) (result_ok
        (if v then within 999999999 (number_of text) else Err Format))
    by_test true = within_holds (number_of text)
    by_test false = tt

beat_holds : (m : List ℕ) → May (λ x. x ≤ 999999999) (given_number 108 m)
beat_holds m = chained (λ t. Unit {0}) (λ x. x ≤ 999999999) (get 108 m) _ (any_text (get 108 m)) (λ t h. read_holds t)

parts_hold : (m : List ℕ) (n : ℕ) → May FitsLogon (logon_by_parts m n)
unfolding logon_by_parts
parts_hold m n = by_test (is_opening m n)
  where
    by_test : (v : Bool) → May FitsLogon (if not v then None else
        (given_id 49 m >>= λ client. given_id 56 m >>= λ host. given_number 108 m >>= λ beat. Some
        (record { client = client; host = host; beat = beat })))
    by_test false = tt
    by_test true =
        chained (λ id. is_id id ≡ true) FitsLogon (given_id 49 m) _ (id_in_holds 49 m) (λ client is_client.
        chained (λ id. is_id id ≡ true) FitsLogon (given_id 56 m) _ (id_in_holds 56 m) (λ host is_host.
        chained (λ x. x ≤ 999999999) FitsLogon (given_number 108 m) _ (beat_holds m)
        (λ beat short. (is_client, is_host, short))))

logon_holds : (m : List ℕ) (n : ℕ) → May FitsLogon (logon_of m n)
logon_holds m n = subst (May FitsLogon) (sym (logon_is m n)) (parts_hold m n)

event_holds : (n : ℕ) (r : Result Meaning ℕ) → IsNumber n → Holds (FitsMeaning n) r
    → May IsGiven (event_of_accepted n r)
event_holds n (Ok Nothing) num h = tt
event_holds n (Ok (Says e)) num h = h
event_holds n (Ok (GapFill next)) num h = tt
event_holds n (Err reason) num h = record { fits = (num, h); no_logon = refl; no_close = refl }

next_holds : (n : ℕ) (r : Result Meaning ℕ) → IsNumber n → Holds (FitsMeaning n) r → 1 ≤ due_after_accepted n r
next_holds n (Ok Nothing) num h = omega arith
next_holds n (Ok (Says e)) num h = omega arith
next_holds n (Ok (GapFill next)) num h = omega (arith, num.0, h)
next_holds n (Err reason) num h = omega arith

view_with_fair : (m : List ℕ) (n : ℕ) → IsNumber n → IsFair (view_with m n)
view_with_fair m n num = record {
  number = num;
  next = next_holds n (meaning_of_message m n) num (meaning_holds m n);
  event = event_holds n (meaning_of_message m n) num (meaning_holds m n);
  logon = logon_holds m n;
}

at_least_one_holds : (n : ℕ) → n ≤ 999999999 → May IsNumber (then_some (nat_le 1 n) n)
at_least_one_holds n h = by_test (nat_le 1 n) refl
  where
    by_test : (v : Bool) → nat_le 1 n ≡ v → May IsNumber (then_some v n)
    by_test true e = (grind (arith, nat_tests), h)
    by_test false e = tt

pub number_holds : (o : Option (List ℕ)) → May IsNumber
    (option_and_then (λ n. then_some (nat_le 1 n) n) (option_and_then (λ text. result_ok (number_in text)) o))
number_holds None = tt
number_holds (Some text) = chained (λ x. x ≤ 999999999) IsNumber (result_ok (number_in text)) _ (read_holds text)
    at_least_one_holds

pub view_fair : (m : List ℕ) → May IsFair (numbered m)
view_fair m = by_number (number m) (number_holds (get 34 m))
  where
    by_number : (o : Option ℕ) → May IsNumber o → May IsFair (option_map (view_with m) o)
    by_number None h = tt
    by_number (Some n) h = view_with_fair m n h

-- ---- one step

-- what a session in that state may say from now on
abbrev IsLawfulFrom : State → List Event → Type 0
IsLawfulFrom states.Before es = All FitsEvent es × (starts_in_order es ≡ true)
IsLawfulFrom (states.Running r) es = All FitsEvent es × (is_running es ≡ true)
IsLawfulFrom states.Closed es = es ≡ []

abbrev IsSound : State → Type 0
IsSound states.Before = Unit {0}
IsSound (states.Running r) = 1 ≤ r.due
IsSound states.Closed = Unit {0}

no_more : (reason : ℕ) (es : List Event) → 1 ≤ reason → reason ≤ 5 → es ≡ [] → All FitsEvent (events.Close reason ∷ es)
    × (is_end es ≡ true)
no_more reason [] low high h = (All-cons FitsEvent (events.Close reason) [] (low, high) (All-nil FitsEvent), refl)
no_more reason (e ∷ es) low high h = cc

-- a Close ends what is said, before the Logon and after it
close_first : (reason : ℕ) (es : List Event) → 1 ≤ reason → reason ≤ 5 → es ≡ []
    → IsLawfulFrom states.Before (events.Close reason ∷ es)
close_first reason es low high h = no_more reason es low high h

close_later : (r : Running) (reason : ℕ) (es : List Event) → 1 ≤ reason → reason ≤ 5 → es ≡ []
    → IsLawfulFrom (states.Running r) (events.Close reason ∷ es)
close_later r reason es low high h = no_more reason es low high h

running_more : (e : Event) (es : List Event) → is_logon e ≡ false → is_close e ≡ false → is_running es ≡ true
    → is_running (e ∷ es) ≡ true
running_more e es l c h = ap (λ v. not v && (if is_close e then is_end es else is_running es)) l
    ∙ (ap (λ v. if v then is_end es else is_running es) c ∙ h)

given_more : (r s : Running) (e : Event) (es : List Event) → IsGiven e → IsLawfulFrom (states.Running s) es
    → IsLawfulFrom (states.Running r) (e ∷ es)
given_more r s e es g h = (All-cons FitsEvent e es g.fits h.0, running_more e es g.no_logon g.no_close h.1)

-- what is said from a session on, by what the rest says from each
abbrev IsLawfulRest : (Session → List Event) → Type 0
IsLawfulRest rest = (t : Session) → IsSound t.state → IsLawfulFrom t.state (rest t)

abbrev says_first : (Session → List Event) → Verdict × Session → List Event
says_first rest x = cons_option (event_in x.0) (rest x.1)

opens_lawful : (rest : Session → List Event) → IsLawfulRest rest → (next : ℕ) (o : Option Logon) → 1 ≤ next
    → May FitsLogon o
    → IsLawfulFrom states.Before (says_first rest (opens next o))
opens_lawful rest ih next None low h = close_first 3 (rest closed) (omega arith) (omega arith) (ih closed tt)
opens_lawful rest ih next (Some l) low h =
    let r : Running = record { client = l.client; host = l.host; due = next; gap_asked = false } in
    let more = ih (running r) low in
    (All-cons FitsEvent (logon_event l) (rest (running r)) h more.0, more.1)

accepted_lawful : (rest : Session → List Event) → IsLawfulRest rest → (r s : Running) → 1 ≤ s.due → (o : Option Event)
    → May IsGiven o
    → IsLawfulFrom (states.Running r) (cons_option (event_in (verdict_of o)) (rest (running s)))
accepted_lawful rest ih r s low None h = ih (running s) low
accepted_lawful rest ih r s low (Some e) h = given_more r s e (rest (running s)) h (ih (running s) low)

below_lawful : (rest : Session → List Event) → IsLawfulRest rest → (r : Running) → 1 ≤ r.due → (duplicate : Bool)
    → IsLawfulFrom (states.Running r) (says_first rest (step_below r duplicate))
below_lawful rest ih r low true = ih (running r) low
below_lawful rest ih r low false = close_later r 2 (rest closed) (omega arith) (omega arith) (ih closed tt)

above_lawful : (rest : Session → List Event) → IsLawfulRest rest → (r : Running) → 1 ≤ r.due → r.due ≤ 999999999
    → IsLawfulFrom (states.Running r) (says_first rest (step_above r))
above_lawful rest ih r low high = by_asked r.gap_asked
  where
    by_asked : (asked : Bool) → IsLawfulFrom (states.Running r)
        (says_first rest (if asked then (verdict_of None, running r) else
        (verdict_of (Some (events.Gap r.due)), running (record r { gap_asked = true }))))
    by_asked true = ih (running r) low
    by_asked false = given_more r (record r { gap_asked = true }) (events.Gap r.due)
        (rest (running (record r { gap_asked = true }))) (record
        { fits = (low, high); no_logon = refl; no_close = refl }) (ih (running (record r { gap_asked = true })) low)

due_lawful : (rest : Session → List Event) → IsLawfulRest rest → (r : Running) (m : Numbered) → IsFair m
    → IsLawfulFrom (states.Running r) (says_first rest (step_due r m))
due_lawful rest ih r m fair = by_logout (is_logout m)
  where
    by_logout : (v : Bool) → IsLawfulFrom (states.Running r)
        (says_first rest (if v then closes 1 else (
          verdict_of (event_given m),
          running (record r { due = (next_due m); gap_asked = false }),
        )))
    by_logout true = close_later r 1 (rest closed) (omega arith) (omega arith) (ih closed tt)
    by_logout false = accepted_lawful rest ih r (record r { due = (next_due m); gap_asked = false }) fair.next
        (event_given m) fair.event

running_lawful : (rest : Session → List Event) → IsLawfulRest rest → (r : Running) (m : Numbered) → 1 ≤ r.due → IsFair m
    → IsLawfulFrom (states.Running r) (says_first rest (step_running r m))
running_lawful rest ih r m low fair = by_number (is_between m r.client r.host) (nat_lt m.number r.due)
    (nat_lt r.due m.number) refl
  where
    by_number : (same below above : Bool) → nat_lt r.due m.number ≡ above
        → IsLawfulFrom (states.Running r) (says_first rest
        (if not same then closes 4 else (if below then step_below r (repeats m) else
        (if above then step_above r else step_due r m))))
    by_number false below above e = close_later r 4 (rest closed) (omega arith) (omega arith) (ih closed tt)
    by_number true true above e = below_lawful rest ih r low (repeats m)
    by_number true false true e =
        let over : r.due < m.number = grind (arith, nat_tests) in
        above_lawful rest ih r low (omega (arith, over, fair.number.1))
    by_number true false false e = due_lawful rest ih r m fair

step_lawful : (rest : Session → List Event) → IsLawfulRest rest → (t : State) (m : Numbered) → IsSound t → IsFair m
    → IsLawfulFrom t (says_first rest (step_at t m))
step_lawful rest ih states.Before m sound fair = opens_lawful rest ih (next_due m) (logon_in m) fair.next fair.logon
step_lawful rest ih (states.Running r) m sound fair = running_lawful rest ih r m sound fair
step_lawful rest ih states.Closed m sound fair = ih closed tt

judge_lawful : (rest : Session → List Event) → IsLawfulRest rest → (s : Session) (o : Option Numbered) → IsSound s.state
    → May IsFair o
    → IsLawfulFrom s.state (says_first rest (step_or_stay s o))
judge_lawful rest ih s None sound fair = ih s sound
judge_lawful rest ih s (Some m) sound fair = step_lawful rest ih s.state m sound fair

-- ---- all frames, and the end

abbrev said_until_end : List (List ℕ) → Session → List Event
said_until_end [] s = events_at_end s
said_until_end (f ∷ fs) s = cons_option (event_in (judge s f).0) (said_until_end fs (judge s f).1)

end_lawful : (s : Session) → IsSound s.state → IsLawfulFrom s.state (events_at_end s)
end_lawful s sound = by_state s.state sound
  where
    by_state : (t : State) → IsSound t → IsLawfulFrom t (events_at_end (record { state = t }))
    by_state states.Before h = close_first 5 [] (omega arith) (omega arith) refl
    by_state (states.Running r) h = close_later r 5 [] (omega arith) (omega arith) refl
    by_state states.Closed h = refl

said_lawful : (fs : List (List ℕ)) → IsLawfulRest (said_until_end fs)
said_lawful [] = end_lawful
said_lawful (f ∷ fs) = λ s sound. judge_lawful (said_until_end fs) (said_lawful fs) s (numbered f) sound (view_fair f)

said_is : (fs : List (List ℕ)) (s : Session) → events_said s fs
    ++ events_at_end (session_after s fs) ≡ said_until_end fs s
said_is [] s = refl
said_is (f ∷ fs) s =
    sym (cons_two (event_in (judge s f).0) (events_said (judge s f).1 fs)
    (events_at_end (session_after (judge s f).1 fs)))
    ∙ ap (cons_option (event_in (judge s f).0)) (said_is fs (judge s f).1)

pub whole_lawful : (fs : List (List ℕ)) → All FitsEvent
    (events_said new_session fs ++ events_at_end (session_after new_session fs))
    × (is_in_order (events_said new_session fs ++ events_at_end (session_after new_session fs)) ≡ true)
whole_lawful fs =
    let said = said_lawful fs new_session tt in
    subst (λ es. All FitsEvent es × (is_in_order es ≡ true)) (sym (said_is fs new_session))
    (said.0, order_by_event (said_until_end fs new_session) ∙ said.1)

-- ---- a beginning of what is in range is in range

pub events_fit : (xs ys : List Event) → All FitsEvent (xs ++ ys) → All FitsEvent xs
events_fit [] ys h = All-nil FitsEvent
events_fit (x ∷ xs) ys h = All-cons FitsEvent x xs (All-head FitsEvent x (xs ++ ys) h)
    (events_fit xs ys (All-tail FitsEvent x (xs ++ ys) h))
