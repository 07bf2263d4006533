-- A reader that has read a stream.
use Rattle.std.proofs.Common.{◌≡◌, ℕ, cond, List, [], ◌∷◌, ◌++◌, length, drop, refl, sym, ap, ◌∙◌}
use Rattle.std.proofs.lemmas.List.{drop_at, append_assoc}
use Rattle.spread_rules.specs.declared.event.Event.TheVariants as variant
use Rattle.fix_wire_frames.specs.Frames.{frames}
use Rattle.fix_wire_framer.specs.Pieces.{SplitsInto}
use Rattle.fix_session_judging.specs.declared.session.Session.{Session}
use Rattle.fix_session_judging.specs.Reading.{ReaderState, new_reader, IsBehind}
use Rattle.fix_session_judging.specs.Steps.{new_session, events_said, session_after, events_at_end}
use Rattle.fix_session_judging.specs.Streams.{events, stays_open}
use Rattle.fix_session_judging.specs.code.Streams.{events_of, stays_open_of}
use Rattle.intake_lines.specs.code.DayLines.{new_events, read_on}

pub starts : IsBehind [] new_reader
starts = record { left = λ more. refl; judged_all = refl }

module _ (events_law : (fs : List (List ℕ)) → events_said new_session fs ≡ events_of fs)
    (said_two : (s : Session) (fs gs : List (List ℕ)) → events_said s (fs ++ gs) ≡ events_said s fs
    ++ events_said (session_after s fs) gs) where
  pub says : (stream : List ℕ) (r : ReaderState) (line : List ℕ) → IsBehind stream r
      → events_said r.session (frames (r.held ++ line)) ≡ new_events stream line
  says stream r line b =
      let now = frames stream in
      let next = frames (r.held ++ line) in
      let all : events (stream ++ line) ≡ events stream ++ events_said r.session next =
      sym (events_law (frames (stream ++ line))) ∙ ap (events_said new_session) (b.left line)
      ∙ said_two new_session now next
      ∙ ap (λ t. t ++ events_said (session_after new_session now) next) (events_law now)
      ∙ ap (λ t. events stream ++ events_said t next) (sym b.judged_all) in
      sym (ap (drop (length (events stream))) all ∙ drop_at (events stream) (events_said r.session next)
      (length (events stream)) refl)

pub goes_on : ((s : Session) (fs gs : List (List ℕ))
    → session_after s (fs ++ gs) ≡ session_after (session_after s fs) gs)
    → (stream : List ℕ) (r : ReaderState) (line left : List ℕ) → IsBehind stream r
    → SplitsInto (r.held ++ line) (frames (r.held ++ line)) left
    → IsBehind (stream ++ line) (read_on r (frames (r.held ++ line)) left)
goes_on after_two stream r line left b l = record {
  left = λ more.
      ap frames (append_assoc stream line more) ∙ b.left (line ++ more)
      ∙ ap (λ t. frames stream ++ frames t) (sym (append_assoc r.held line more))
      ∙ ap (λ t. frames stream ++ t) (l more) ∙ sym (append_assoc (frames stream) (frames (r.held ++ line))
      (frames (left ++ more)))
      ∙ ap (λ t. t ++ frames (left ++ more)) (sym (b.left line));
  judged_all =
      ap (λ t. session_after t (frames (r.held ++ line))) b.judged_all
      ∙ sym (after_two new_session (frames stream) (frames (r.held ++ line)))
      ∙ ap (session_after new_session) (sym (b.left line));
}

pub ends : ((fs : List (List ℕ)) → events_at_end (session_after new_session fs) ≡ cond (stays_open_of fs)
    (variant.Close 5 ∷ []) []) → (stream : List ℕ) (r : ReaderState) → IsBehind stream r
    → events_at_end r.session ≡ cond (stays_open stream) (variant.Close 5 ∷ []) []
ends closed_law stream r b = ap events_at_end b.judged_all ∙ closed_law (frames stream)
