-- A gateway through one step.
use Rattle.std.proofs.Common.{◌≡◌, ◌≢◌, ℕ, false, List, [], ◌∷◌, ◌++◌, Some, Option, ◌||◌, refl, ap, ◌∙◌, inl}
use Rattle.std.specs.List.{list_any}
use Rattle.std.proofs.Math.Bool.{or-false}
use Rattle.std.proofs.lemmas.List.Folds.{list_any-append}
use Rattle.spread_rules.specs.Journal.{is_close}
use Rattle.spread_rules.specs.declared.event.Event.{Event}
use Rattle.spread_rules.specs.declared.event.Entry.{Entry}
use Rattle.fix_session_judging.specs.Steps.{judge, event_in}
use Rattle.fix_session_judging.specs.Reading.{ReaderState, first_message, after_skipping, after_passing}
use Rattle.fix_session.proofs.readers.FirstMessage.{passed_skipped}
use Rattle.fix_session.proofs.readers.BytesFed.{leaves_skipped, session_passed}
use Rattle.gate_link_sessions.specs.Owed.{events_left}
use Rattle.gate_link_sessions.proofs.gateways.StillOwed.{owed_same}
use Rattle.gate_link_sessions.specs.Rows.{entry_events}
use Rattle.gate_link_sessions.specs.Gateways.{events_sent, session_state, bytes_held, OnlySkipped, Passes, Stepped, Ended}
use Rattle.gate_link_sessions.specs.declared.gateway.Gateway.{Gateway}
use Rattle.gate_link_sessions.specs.declared.gateway.Step.{Step}
use Rattle.gate_link_sessions.specs.declared.gateway.Step.TheVariants.{Sent, Skipped, Need, Full, Closed}

-- the events, one entry later
pub events_later : (xs : List Entry) (x : Entry) → entry_events (xs ++ x ∷ []) ≡ entry_events xs ++ x.event ∷ []
events_later [] x = refl
events_later (y ∷ xs) x = ap (λ (t : List Event). y.event ∷ t) (events_later xs x)

-- what `step` did, unless it found no message, is what `end` may do
pub ended_of_step : {A : Type 0} (r : Step) (a b : Gateway A) → r ≢ Need → Stepped r a b → Ended r a b
ended_of_step Sent a b is s = inl s
ended_of_step Skipped a b is s = s
ended_of_step Need a b is s = is refl
ended_of_step Full a b is s = inl s
ended_of_step Closed a b is s = s

-- ---- one look

pub looked : {A : Type 0} (a b : Gateway A) → b.reader ≡ after_skipping a.reader → events_sent b ≡ events_sent a
    → OnlySkipped a b
looked a b e sent =
    let same = leaves_skipped a.reader b.reader e in
    let state = ap (λ r. r.session) e in
    record {
      sent = sent;
      state = state;
      held = ap (λ r. r.held) e;
      pending = λ more. ap (λ s. events_left s (bytes_held b) more) state
          ∙ owed_same (session_state a) (bytes_held a) (bytes_held b) same more;
    }

-- the first message was passed
pub message_passed : {A : Type 0} (a b : Gateway A) (mid : ReaderState) (m : List ℕ) (says : Option Event)
    → mid ≡ after_skipping a.reader → first_message a.reader ≡ Some m → b.reader ≡ after_passing mid →
    event_in (judge (session_state a) m).0 ≡ says → Passes says a b
message_passed a b mid m says e here went says_so =
    let all : b.reader ≡ after_passing a.reader = went ∙ ap after_passing e ∙ passed_skipped a.reader in
    record {
      message = m;
      stands = here;
      says_so = says_so;
      state = session_passed a.reader mid b.reader m e here went;
      held = ap (λ r. r.held) all;
    }

-- whether a list has a close, one event later
pub close_later : (xs : List Event) (e : Event) → list_any is_close xs ≡ false
    → list_any is_close (xs ++ e ∷ []) ≡ is_close e
close_later xs e none = list_any-append is_close xs (e ∷ [])
    ∙ (ap (λ b. b || (is_close e || false)) none ∙ or-false (is_close e))
