-- What a gateway has passed and sent once its first messages were judged ahead.
use Rattle.std.proofs.Common.{◌≡◌, ◌≢◌, ℕ, ◌≤◌, List, [], ◌∷◌, ◌++◌, length, take, refl, sym, ap, ◌∙◌, arith, append-nil}
use Rattle.std.proofs.lemmas.List.{length-map, length-take-le, map-append, nil_from_length}
use Rattle.spread_rules.specs.declared.event.Event.{Event}
use Rattle.spread_rules.specs.declared.event.Entry.{Entry}
use Rattle.fix_wire_frames.specs.Frames.{frames}
use Rattle.fix_session_judging.specs.declared.ahead.Ahead.{Ahead}
use Rattle.fix_session_judging.specs.Reading.{ReaderState, entries_of}
use Rattle.fix_session_judging.specs.Ahead.{after_frames, IsAhead, after_ahead}
use Rattle.gate_link_sessions.specs.Rows.{entry_events, entry}
use Rattle.gate_link_sessions.specs.Gateways.{bytes_held}
use Rattle.gate_link_sessions.specs.Bursts.{first_messages, PassesMany}
use Rattle.gate_link_sessions.specs.declared.gateway.Gateway.{Gateway}

-- the messages are passed
pub passed_many : {A : Type 0} (a b : Gateway A) (number most : ℕ) (xs : List Entry) (j : Ahead)
    → IsAhead number most a.reader xs j → b.reader ≡ after_ahead a.reader j → j.messages ≢ 0 → PassesMany most a b
passed_many a b number most xs j is went some =
    let held = ap (λ (r : ReaderState). r.held) went in
    record {
      some = grind (arith, is.messages, some);
      state = ap (λ (r : ReaderState). r.session) went ∙ is.session;
      held = held ∙ (is.rest ∙ ap (λ k. after_frames k (bytes_held a)) is.messages);
      left = λ more. is.left more ∙ ap (λ t. first_messages most a ++ frames (t ++ more)) (sym held);
    }

-- the events of entries
pub events_back : (number : ℕ) (es : List Event) → entry_events (entries_of number es) ≡ es
events_back number [] = refl
events_back number (e ∷ es) = ap (λ t. e ∷ t) (events_back number es)

-- how many they are
pub events_size : (number k : ℕ) (xs : List Entry) (es : List Event) → take k xs ≡ entries_of number es → k ≤ length xs
    → k ≡ length es
events_size number k xs es is fits =
    sym (length-take-le k xs fits) ∙ (ap length is ∙ length-map es (entry number))

-- there are none
pub no_events_said : (number k : ℕ) (xs : List Entry) (es : List Event) → take k xs ≡ entries_of number es
    → k ≤ length xs → k ≡ 0 → es ≡ []
no_events_said number k xs es is fits none = nil_from_length es (sym (events_size number k xs es is fits) ∙ none)

-- what was sent, and these entries behind it
pub sent_more : (number k : ℕ) (was now xs : List Entry) (es : List Event) → now ≡ was ++ take k xs
    → take k xs ≡ entries_of number es → entry_events now ≡ entry_events was ++ es
sent_more number k was now xs es grown is =
    ap entry_events grown
    ∙ (map-append (λ (e : Entry). e.event) was (take k xs)
    ∙ ap (λ t. entry_events was ++ t) (ap entry_events is ∙ events_back number es))

-- nothing behind it
pub sent_same : (xs es : List Event) → es ≡ [] → xs ≡ xs ++ es
sent_same xs es none = sym (append-nil xs) ∙ ap (λ t. xs ++ t) (sym none)
