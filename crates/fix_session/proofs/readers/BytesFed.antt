-- What it does to a reader to be fed.
use Rattle.std.proofs.Common.{◌≡◌, ℕ, ◌<◌, true, List, [], ◌∷◌, ◌++◌, length, take, drop, Some, None, is_some, refl, sym, ap, ◌∙◌, subst}
use Rattle.std.specs.List.{cons_option}
use Rattle.std.proofs.lemmas.List.{append-nil, append_assoc, take-append-drop, map-append}
use Rattle.spread_rules.specs.declared.event.Entry.{Entry}
use Rattle.fix_wire_frames.specs.Frames.{frames}
use Rattle.fix_wire_frames.specs.Held.{first_frame, from_first_start}
use Rattle.fix_wire_framer.specs.Pieces.{SplitsInto, IsDrained}
use Rattle.fix_wire_frames.proofs.framing.FramesHeld.{scan_start, start_frames, room_left}
use Rattle.fix_wire_framer.proofs.framing.OneTurn.{need_leaves, passed_leaves}
use Rattle.fix_session_judging.specs.Steps.{judge, event_in, events_said, session_after}
use Rattle.fix_session_judging.specs.Reading.{ReaderState, first_message, session_past, after_skipping, after_passing, with_more, entries_of, Fed}
use Rattle.fix_session_judging.proofs.events.StateOfPlaces.{said_two, after_two}

-- skipped bytes
pub fed_none : (n : ℕ) (out : List Entry) (a b : ReaderState) → SplitsInto a.held [] b.held → b.session ≡ a.session
    → Fed n out a out b
fed_none n out a b l s = record { frames_passed = []; left = l; says = sym (append-nil out); judged_all = s }

-- one message
pub fed_message : (n : ℕ) (out : List Entry) (a : ReaderState) (frame : List ℕ) (out2 : List Entry) (b : ReaderState) →
    SplitsInto a.held (frame ∷ []) b.held → out2 ≡ out ++ entries_of n (events_said a.session (frame ∷ []))
    → b.session ≡ session_after a.session (frame ∷ []) → Fed n out a out2 b
fed_message n out a frame out2 b l e j = record { frames_passed = frame ∷ []; left = l; says = e; judged_all = j }

-- one after another
pub fed_two : (n : ℕ) (out : List Entry) (a : ReaderState) (out1 : List Entry) (b : ReaderState) (out2 : List Entry)
    (c : ReaderState) → Fed n out a out1 b → Fed n out1 b out2 c → Fed n out a out2 c
fed_two n out a out1 b out2 c f g = record {
  frames_passed = f.frames_passed ++ g.frames_passed;
  left = λ more. f.left more ∙ ap (λ t. f.frames_passed ++ t) (g.left more)
      ∙ sym (append_assoc f.frames_passed g.frames_passed (frames (c.held ++ more)));
  says =
      g.says ∙ ap (λ t. t ++ entries_of n (events_said b.session g.frames_passed)) f.says
      ∙ append_assoc out (entries_of n (events_said a.session f.frames_passed))
      (entries_of n (events_said b.session g.frames_passed))
      ∙ ap (λ t. out ++ (entries_of n (events_said a.session f.frames_passed)
      ++ entries_of n (events_said t g.frames_passed))) f.judged_all
      ∙ ap (λ t. out ++ t) (sym (map-append (λ e. let r : Entry = record { session = n; event = e } in r)
      (events_said a.session f.frames_passed) (events_said (session_after a.session f.frames_passed)
      g.frames_passed)) ∙ ap (entries_of n) (sym (said_two a.session f.frames_passed g.frames_passed)));
  judged_all = g.judged_all ∙ ap (λ t. session_after t g.frames_passed) f.judged_all
      ∙ sym (after_two a.session f.frames_passed g.frames_passed);
}

-- more bytes behind those that are held
pub fed_more : (n : ℕ) (out : List Entry) (a : ReaderState) (out2 : List Entry) (b : ReaderState) (rest : List ℕ)
    → Fed n out a out2 b → Fed n out (with_more a rest) out2 (with_more b rest)
fed_more n out a out2 b rest f = record {
  frames_passed = f.frames_passed;
  left = λ more. ap frames (append_assoc a.held rest more) ∙ f.left (rest ++ more)
      ∙ ap (λ t. f.frames_passed ++ frames t) (sym (append_assoc b.held rest more));
  says = f.says;
  judged_all = f.judged_all;
}

-- a part of what is left is put, and the reader is fed
pub fed_put : (n : ℕ) (out : List Entry) (a : ReaderState) (out1 : List Entry) (b : ReaderState) (rest : List ℕ) (k : ℕ)
    (put : ReaderState) (out2 : List Entry) (c : ReaderState) (rest2 : List ℕ) →
    Fed n out a out1 (with_more b rest) → put ≡ with_more b (take k rest) → Fed n out1 put out2 c → rest2 ≡ drop k rest
    → Fed n out a out2 (with_more c rest2)
fed_put n out a out1 b rest k put out2 c rest2 f e g same =
    let whole : with_more (with_more b (take k rest)) (drop k rest) ≡ with_more b rest =
    ap (λ t. let r : ReaderState = record { held = t; session = b.session } in r)
    (append_assoc b.held (take k rest) (drop k rest) ∙ ap (λ t. b.held ++ t) (take-append-drop k rest)) in
    subst (λ t. Fed n out a out2 (with_more c t)) (sym same)
    (fed_two n out a out1 (with_more b rest) out2 (with_more c (drop k rest)) f
    (subst (λ t. Fed n out1 t out2 (with_more c (drop k rest))) (ap (λ t. with_more t (drop k rest)) e ∙ whole)
    (fed_more n out1 put out2 c (drop k rest) g)))

-- no message stands
pub leaves_skipped : (a b : ReaderState) → b ≡ after_skipping a → SplitsInto a.held [] b.held
leaves_skipped a b e more = sym (scan_start a.held more) ∙ ap (λ r. frames (r.held ++ more)) (sym e)

pub fed_skipped : (n : ℕ) (out : List Entry) (a b : ReaderState) → b ≡ after_skipping a → Fed n out a out b
fed_skipped n out a b e = fed_none n out a b (leaves_skipped a b e) (ap (λ r. r.session) e)

pub drained_where_none : (a b : ReaderState) → b ≡ after_skipping a → first_message a ≡ None → IsDrained b.held
drained_where_none a b e none =
    subst (λ r. IsDrained r.held) (sym e) (need_leaves a.held (from_first_start a.held) refl none
    (room_left a.held none)).1

first_again : (a b : ReaderState) (m : List ℕ) → b ≡ after_skipping a → first_message a ≡ Some m
    → first_message b ≡ Some m
first_again a b m e here = ap first_message e ∙ ap first_frame (start_frames a.held) ∙ here

pub leaves_passed : (a b c : ReaderState) (m : List ℕ) → b ≡ after_skipping a → first_message a ≡ Some m
    → c ≡ after_passing b → SplitsInto a.held (m ∷ []) c.held × (length c.held < length a.held)
leaves_passed a b c m e here went =
    passed_leaves a.held b.held c.held m true (ap (λ r. r.held) e) here (sym (ap is_some (first_again a b m e here)))
    (ap (λ r. r.held) went)

-- the first message is passed
pub passed_less : (a b c : ReaderState) (m : List ℕ) → b ≡ after_skipping a → first_message a ≡ Some m
    → c ≡ after_passing b → length c.held < length a.held
passed_less a b c m e here went = (leaves_passed a b c m e here went).1

pub session_passed : (a b c : ReaderState) (m : List ℕ) → b ≡ after_skipping a → first_message a ≡ Some m
    → c ≡ after_passing b → c.session ≡ (judge a.session m).1
session_passed a b c m e here went = ap (λ r. r.session) went ∙ ap (session_past b.session) (first_again a b m e here)
    ∙ ap (λ r. (judge r.session m).1) e

-- and its event joins
pub fed_passed : (n : ℕ) (out : List Entry) (a b c : ReaderState) (m : List ℕ) (out2 : List Entry)
    → b ≡ after_skipping a → first_message a ≡ Some m → c ≡ after_passing b →
    out2 ≡ out ++ entries_of n (cons_option (event_in (judge a.session m).0) []) → Fed n out a out2 c
fed_passed n out a b c m out2 e here went says =
    fed_message n out a m out2 c (leaves_passed a b c m e here went).0 says (session_passed a b c m e here went)
