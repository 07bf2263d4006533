-- The first messages that a reader holds, judged ahead while they are still held.
use Rattle.std.specs.Prelude.{◌≡◌, ℕ, zero, suc, ◌≤◌, if◌then◌else◌, List, [], ◌∷◌, length, take, drop}
use Rattle.spread_rules.specs.declared.event.Event.{Event}
use Rattle.spread_rules.specs.declared.event.Entry.{Entry}
use Rattle.fix_wire_frames.specs.Frames.{frames}
use Rattle.fix_wire_frames.specs.Held.{after_first_frame}
use Rattle.fix_wire_framer.specs.Pieces.{SplitsInto}
use Rattle.fix_session_judging.specs.declared.session.Session.{Session}
use Rattle.fix_session_judging.specs.declared.ahead.Ahead.{Ahead}
use Rattle.fix_session_judging.specs.Steps.{judge, is_closed, events_said, session_after}
use Rattle.fix_session_judging.specs.Reading.{ReaderState, entries_of}

-- of these frames the first so many, none past one that closes the session
abbrev pub up_to_close : ℕ → Session → List (List ℕ) → List (List ℕ)
up_to_close zero s fs = []
up_to_close (suc n) s [] = []
up_to_close (suc n) s (f ∷ fs) = if is_closed s then [] else f ∷ up_to_close n (judge s f).1 fs

-- what follows so many frames
abbrev pub after_frames : ℕ → List ℕ → List ℕ
after_frames zero held = held
after_frames (suc n) held = after_first_frame (after_frames n held)

-- the first messages that are held, at most so many, none past one that closes the session
abbrev pub next_messages : ℕ → ReaderState → List (List ℕ)
next_messages most r = up_to_close most r.session (frames r.held)

-- what they say
abbrev pub next_events : ℕ → ReaderState → List Event
next_events most r = events_said r.session (next_messages most r)

-- These messages were judged: their events are the first of the entries, and the rest is what stands behind them.
pub record IsAhead (number most : ℕ) (r : ReaderState) (entries : List Entry) (a : Ahead) : Type 0
  where
    pub messages : a.messages ≡ length (next_messages most r)
    pub events : take a.events entries ≡ entries_of number (next_events most r)
    pub few : a.events ≤ most
    pub session : a.session ≡ session_after r.session (next_messages most r)
    pub place : a.place ≤ length r.held
    pub rest : drop a.place r.held ≡ after_frames a.messages r.held
    pub left : SplitsInto r.held (next_messages most r) (drop a.place r.held)

-- they are passed: what is held is what follows them, and the session is the one after them
abbrev pub after_ahead : ReaderState → Ahead → ReaderState
after_ahead r a = record { held = drop a.place r.held; session = a.session }
