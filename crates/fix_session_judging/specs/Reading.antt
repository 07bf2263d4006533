-- What a contract sees of a reader: the bytes that were put and not passed, and the session so far.
use Rattle.std.specs.Prelude.{◌≡◌, ℕ, List, [], ◌++◌, map, Option, Some, None, option_map, Vec}
use Rattle.spread_rules.specs.declared.event.Event.{Event}
use Rattle.spread_rules.specs.declared.event.Entry.{Entry}
use Rattle.fix_wire_frames.specs.Frames.{frames}
use Rattle.fix_wire_frames.specs.Held.{first_frame, from_first_start, after_first_frame}
use Rattle.fix_wire_framer.specs.Pieces.{SplitsInto}
use Rattle.fix_session_judging.specs.declared.session.Session.{Session}
use Rattle.fix_session_judging.specs.declared.session.Verdict.{Verdict}
use Rattle.fix_session_judging.specs.Steps.{new_session, judge, events_said, session_after}

pub record ReaderState : Type 0 where
  pub held : List ℕ
  pub session : Session

abbrev pub new_reader : ReaderState
new_reader = record { held = []; session = new_session }

-- with these bytes behind those that are held
abbrev pub with_more : ReaderState → List ℕ → ReaderState
with_more r bytes = record { held = r.held ++ bytes; session = r.session }

-- the first message that is held
abbrev pub first_message : ReaderState → Option (List ℕ)
first_message r = first_frame (frames r.held)

-- what it says, and the session after it
abbrev pub first_judgement : ReaderState → Option (Verdict × Session)
first_judgement r = option_map (judge r.session) (first_message r)

-- what it says
abbrev pub first_verdict : ReaderState → Option Verdict
first_verdict r = option_map (λ m. (judge r.session m).0) (first_message r)

-- the session after it, and the same session where no message stands
abbrev pub session_past : Session → Option (List ℕ) → Session
session_past s None = s
session_past s (Some m) = (judge s m).1

-- the bytes at the front at which no frame stands or may begin are gone
abbrev pub after_skipping : ReaderState → ReaderState
after_skipping r = record { held = from_first_start r.held; session = r.session }

-- the first message is gone too, and the session has judged it
abbrev pub after_passing : ReaderState → ReaderState
after_passing r = record {
  held = after_first_frame r.held;
  session = session_past r.session (first_message r);
}

-- ---- over several messages

-- copies of messages, as their bytes
abbrev pub texts : {A : Type 0} → List (Vec ℕ A) → List (List ℕ)
texts copies = map (λ c. c.items) copies

-- the events of one session as entries
abbrev pub entries_of : ℕ → List Event → List Entry
entries_of n es = map (λ e. record { session = n; event = e }) es

-- From these entries and this reader it went on to those: some frames were passed, the session
-- judged them, and what it said joined the entries.
pub record Fed (n : ℕ) (out : List Entry) (r : ReaderState)
    (out_next : List Entry) (r_next : ReaderState) : Type 0 where
  pub frames_passed : List (List ℕ)
  pub left : SplitsInto r.held frames_passed r_next.held
  pub says : out_next ≡ out ++ entries_of n (events_said r.session frames_passed)
  pub judged_all : r_next.session ≡ session_after r.session frames_passed

-- from the start the session has judged these frames, and no others
abbrev pub HasJudged : List (List ℕ) → ReaderState → Type 0
HasJudged fs r = r.session ≡ session_after new_session fs

-- The reader has read this stream: it has passed the stream's frames and holds what may still begin one.
pub record IsBehind (stream : List ℕ) (r : ReaderState) : Type 0 where
  pub left : SplitsInto stream (frames stream) r.held
  pub judged_all : HasJudged (frames stream) r
