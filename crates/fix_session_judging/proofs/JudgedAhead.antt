-- The messages that are judged ahead are those up to the first that closes the session.
use Rattle.std.proofs.Common.{◌≡◌, ℕ, zero, suc, ◌+◌, ◌<◌, ◌≤◌, Bool, true, false, cond, List, [], ◌∷◌, ◌++◌, length, take, drop, Some, refl, sym, ap, ◌∙◌, arith, append_assoc, append-nil, length-append}
use Rattle.std.specs.List.{cons_option}
use Rattle.std.proofs.lemmas.List.{map-append, take_more_set}
use Rattle.std.proofs.Math.ListN.{set}
use Rattle.spread_rules.specs.declared.event.Event.{Event}
use Rattle.spread_rules.specs.declared.event.Entry.{Entry}
use Rattle.fix_wire_frames.specs.Frames.{frames}
use Rattle.fix_wire_frames.specs.Held.{first_frame, after_first_frame}
use Rattle.fix_wire_framer.specs.Pieces.{SplitsInto}
use Rattle.fix_wire_framer.specs.FramePlaces.{EndsFirst}
use Rattle.fix_session_judging.specs.declared.session.Verdict.{Verdict}
use Rattle.fix_session_judging.specs.declared.session.Verdict.TheVariants.{Event as Says, Nothing}
use Rattle.fix_wire_frames.proofs.framing.FramesHeld.{pass_law}
use Rattle.fix_session_judging.specs.declared.session.Session.{Session}
use Rattle.fix_session_judging.specs.declared.ahead.Ahead.{Ahead}
use Rattle.fix_session_judging.specs.Steps.{judge, event_in, is_closed, events_said, session_after}
use Rattle.fix_session_judging.specs.Reading.{entries_of}
use Rattle.fix_session_judging.specs.Ahead.{up_to_close, after_frames, IsAhead}
use Rattle.fix_session_judging.specs.code.Judged.{AllOpen, HasJudgedFirst, JudgesOne}
use Rattle.fix_session_judging.proofs.events.StateOfPlaces.{said_two, after_two}

open_more : (s : Session) (fs : List (List ℕ)) (f : List ℕ) → AllOpen s fs → is_closed (session_after s fs) ≡ false
    → AllOpen s (fs ++ f ∷ [])
open_more s [] f all last = (last, tt)
open_more s (x ∷ fs) f all last = (all.0, open_more (judge s x).1 fs f all.1 last)

suc_is : (n : ℕ) → n + 1 ≡ suc n
suc_is n = omega arith

-- before the first message
pub judged_none : (number : ℕ) (s : Session) (held : List ℕ) (xs : List Entry)
    → HasJudgedFirst number 0 s held xs (record { messages = 0; events = 0; place = 0; session = s })
judged_none number s held xs = record {
  passed = [];
  count = refl;
  messages = refl;
  unclosed = tt;
  events = refl;
  few = omega arith;
  session = refl;
  place = omega arith;
  rest = refl;
  left = λ more. refl;
}

-- one message more
pub judged_more : (number n : ℕ) (s : Session) (held : List ℕ) (xs ys : List Entry) (a b : Ahead)
    → HasJudgedFirst number n s held xs a → is_closed a.session ≡ false → JudgesOne number held xs a ys b
    → HasJudgedFirst number (n + 1) s held ys b
judged_more number n s held xs ys a b was opens one =
    let m = one.message in
    let late = drop a.place held in
    record {
      passed = was.passed ++ m ∷ [];
      count = length-append was.passed (m ∷ []) ∙ omega (arith, was.count);
      messages = omega (arith, one.messages, was.messages);
      unclosed = open_more s was.passed m was.unclosed (ap is_closed (sym was.session) ∙ opens);
      events =
          one.events
          ∙ (ap (λ t. t ++ entries_of number (cons_option (event_in (judge a.session m).0) [])) was.events
          ∙ (ap (λ t. entries_of number (events_said s was.passed) ++ entries_of number (events_said t (m ∷ [])))
          was.session
          ∙ (sym (map-append (λ e. let r : Entry = record { session = number; event = e } in r)
          (events_said s was.passed) (events_said (session_after s was.passed) (m ∷ [])))
          ∙ ap (entries_of number) (sym (said_two s was.passed (m ∷ []))))));
      few = omega (arith, one.few, one.messages, was.few);
      session = one.session ∙ (ap (λ t. (judge t m).1) was.session ∙ sym (after_two s was.passed (m ∷ [])));
      place = one.place;
      rest = one.rest ∙ (ap after_first_frame was.rest ∙ sym
          (ap (λ k. after_frames k held) (one.messages ∙ suc_is a.messages)));
      left =
          λ more.
          was.left more
          ∙ (ap (λ t. was.passed ++ t) (pass_law late more m one.stands
          ∙ ap (λ t. m ∷ frames (t ++ more)) (sym one.rest))
          ∙ sym (append_assoc was.passed (m ∷ []) (frames (drop b.place held ++ more))));
    }

-- ---- where it stops

open_step : (s : Session) (f : List ℕ) (ts us : List (List ℕ)) → is_closed s ≡ false → ts ≡ us
    → cond (is_closed s) [] (f ∷ ts) ≡ f ∷ us
open_step s f ts us opens same = ap (λ (v : Bool). cond v [] (f ∷ ts)) opens ∙ ap (λ t. f ∷ t) same

stop_full : (n : ℕ) (s : Session) (fs gs : List (List ℕ)) → length fs ≡ n → AllOpen s fs
    → up_to_close n s (fs ++ gs) ≡ fs
stop_full zero s [] gs l o = refl
stop_full zero s (f ∷ fs) gs l o = absurd (omega (arith, l))
stop_full (suc n) s [] gs l o = absurd (omega (arith, l))
stop_full (suc n) s (f ∷ fs) gs l o = open_step s f (up_to_close n (judge s f).1 (fs ++ gs)) fs o.0
    (stop_full n (judge s f).1 fs gs (omega (arith, l)) o.1)

stop_closed : (n : ℕ) (s : Session) (fs gs : List (List ℕ)) → length fs ≤ n → AllOpen s fs
    → is_closed (session_after s fs) ≡ true → up_to_close n s (fs ++ gs) ≡ fs
stop_closed zero s [] gs l o shut = refl
stop_closed zero s (f ∷ fs) gs l o shut = absurd (omega (arith, l))
stop_closed (suc n) s [] [] l o shut = refl
stop_closed (suc n) s [] (g ∷ gs) l o shut = ap (λ (v : Bool). cond v [] (g ∷ up_to_close n (judge s g).1 gs)) shut
stop_closed (suc n) s (f ∷ fs) gs l o shut = open_step s f (up_to_close n (judge s f).1 (fs ++ gs)) fs o.0
    (stop_closed n (judge s f).1 fs gs (omega (arith, l)) o.1 shut)

stop_none : (n : ℕ) (s : Session) (fs : List (List ℕ)) → length fs ≤ n → AllOpen s fs → up_to_close n s fs ≡ fs
stop_none zero s [] l o = refl
stop_none zero s (f ∷ fs) l o = absurd (omega (arith, l))
stop_none (suc n) s [] l o = refl
stop_none (suc n) s (f ∷ fs) l o = open_step s f (up_to_close n (judge s f).1 fs) fs o.0
    (stop_none n (judge s f).1 fs (omega (arith, l)) o.1)

-- the frames that are held are those that were judged, and then those of what follows
all_held : (held rest : List ℕ) (fs : List (List ℕ)) → SplitsInto held fs rest → frames held ≡ fs ++ frames rest
all_held held rest fs left = ap frames (sym (append-nil held)) ∙ (left [] ∙ ap (λ t. fs ++ frames t) (append-nil rest))

ahead_is : (number most n : ℕ) (s : Session) (held : List ℕ) (xs : List Entry) (a : Ahead)
    (was : HasJudgedFirst number n s held xs a) → n ≤ most → up_to_close most s (frames held) ≡ was.passed
    → IsAhead number most (record { held = held; session = s }) xs a
ahead_is number most n s held xs a was few is = record {
  messages = was.messages ∙ (sym was.count ∙ ap length (sym is));
  events = was.events ∙ ap (λ t. entries_of number (events_said s t)) (sym is);
  few = omega (arith, was.few, was.messages, few);
  session = was.session ∙ ap (session_after s) (sym is);
  place = was.place;
  rest = was.rest;
  left = λ more. was.left more ∙ ap (λ t. t ++ frames (drop a.place held ++ more)) (sym is);
}

-- so many were judged
pub ahead_full : (number most : ℕ) (s : Session) (held : List ℕ) (xs : List Entry) (a : Ahead)
    → HasJudgedFirst number most s held xs a → IsAhead number most (record { held = held; session = s }) xs a
ahead_full number most s held xs a was =
    let late = drop a.place held in
    ahead_is number most most s held xs a was (omega arith)
    (ap (up_to_close most s) (all_held held late was.passed was.left)
    ∙ stop_full most s was.passed (frames late) was.count was.unclosed)

-- the last one closed the session
pub ahead_closed : (number most n : ℕ) (s : Session) (held : List ℕ) (xs : List Entry) (a : Ahead)
    → HasJudgedFirst number n s held xs a → n ≤ most → is_closed a.session ≡ true
    → IsAhead number most (record { held = held; session = s }) xs a
ahead_closed number most n s held xs a was few shut =
    let late = drop a.place held in
    ahead_is number most n s held xs a was few
    (ap (up_to_close most s) (all_held held late was.passed was.left)
    ∙ stop_closed most s was.passed (frames late) (omega (arith, was.count, few)) was.unclosed
    (ap is_closed (sym was.session) ∙ shut))

-- no other one stands
pub ahead_none : (number most n : ℕ) (s : Session) (held : List ℕ) (xs : List Entry) (a : Ahead)
    → HasJudgedFirst number n s held xs a → n ≤ most → frames (drop a.place held) ≡ []
    → IsAhead number most (record { held = held; session = s }) xs a
ahead_none number most n s held xs a was few none =
    let late = drop a.place held in
    ahead_is number most n s held xs a was few
    (ap (up_to_close most s) (all_held held late was.passed was.left
    ∙ (ap (λ t. was.passed ++ t) none ∙ append-nil was.passed))
    ∙ stop_none most s was.passed (omega (arith, was.count, few)) was.unclosed)

-- ---- counted only

pub one_less : (held m after : List ℕ) → first_frame (frames held) ≡ Some m → after ≡ after_first_frame held
    → length (frames held) ≡ 1 + length (frames after)
one_less held m after e is =
    let all : length (frames held) ≡ length (m ∷ frames after) =
    ap (λ t. length (frames t)) (sym (append-nil held)) ∙ (ap length (pass_law held [] m e)
    ∙ ap (λ t. length (m ∷ frames t)) (append-nil (after_first_frame held) ∙ sym is)) in
    omega (arith, all)

-- ---- one message

pub judges_one : (number : ℕ) (held : List ℕ) (xs ys : List Entry) (a b : Ahead) (m : List ℕ) (v : Verdict)
    → Some m ≡ first_frame (frames (drop a.place held)) → EndsFirst held a.place b.place → b.messages ≡ a.messages + 1
    → (v, b.session) ≡ judge a.session m → b.events ≤ a.events + 1 → take b.events ys ≡ take a.events xs
    ++ entries_of number (cons_option (event_in v) []) → JudgesOne number held xs a ys b
judges_one number held xs ys a b m v stands ends more says few events = record {
  message = m;
  stands = sym stands;
  messages = more;
  events = events ∙ ap (λ t. take a.events xs ++ entries_of number (cons_option (event_in t) [])) (ap (λ p. p.0) says);
  few = few;
  session = ap (λ p. p.1) says;
  place = ends.1;
  rest = ends.2;
}

-- its event is the next of the entries
pub event_set : (number : ℕ) (xs : List Entry) (i : ℕ) (e : Event) (v : Verdict) → i < length xs → v ≡ Says e
    → take (i + 1) (set xs i (record { session = number; event = e })) ≡ take i xs
    ++ entries_of number (cons_option (event_in v) [])
event_set number xs i e v here is =
    take_more_set xs i (record { session = number; event = e }) here
    ∙ ap (λ t. take i xs ++ entries_of number (cons_option (event_in t) [])) (sym is)

pub event_none : (number : ℕ) (xs : List Entry) (i : ℕ) (v : Verdict) → v ≡ Nothing → take i xs ≡ take i xs
    ++ entries_of number (cons_option (event_in v) [])
event_none number xs i v is =
    sym (append-nil (take i xs)) ∙ ap (λ t. take i xs ++ entries_of number (cons_option (event_in t) [])) (sym is)
