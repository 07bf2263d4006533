-- What a reader knows of its first message.
use Rattle.std.proofs.Common.{◌≡◌, ℕ, Bool, true, List, ◌++◌, Option, Some, None, is_some, option_map, refl, sym, ap, ◌∙◌}
use Rattle.std.specs.Bool.{OnTrue}
use Rattle.std.proofs.lemmas.Option.{same_Some}
use Rattle.fix_wire_frames.specs.Frames.{frames, frame_at}
use Rattle.fix_wire_frames.specs.Held.{first_frame, from_first_start, past_frame, after_first_frame}
use Rattle.fix_wire_frames.proofs.framing.FrontStays.{frame_stays}
use Rattle.fix_wire_framer.proofs.framing.OneTurn.{on_true}
use Rattle.fix_wire_frames.proofs.framing.FramesHeld.{start_frame, start_again, start_frames, none_stands, no_frames, pass_law}
use Rattle.fix_session_judging.specs.declared.session.Session.{Session}
use Rattle.fix_session_judging.specs.declared.session.Verdict.{Verdict}
use Rattle.fix_session_judging.specs.Steps.{judge}
use Rattle.fix_session.specs.declared.reader.Reader.TheInside.{Inside}
use Rattle.fix_session_judging.specs.Reading.{ReaderState, first_message, first_judgement, first_verdict, session_past, after_skipping, after_passing}
use Rattle.fix_session_judging.specs.declared.session.Change.{Change}
use Rattle.fix_session_judging.specs.code.Changes.{judgement_with}
use Rattle.fix_session.specs.code.ReaderFields.{IsKept}

-- the message that was judged
pub judged_some : (s : Session) (o : Option (List ℕ)) (d : Verdict × Session) → option_map (judge s) o ≡ Some d
    → (m : List ℕ) × ((o ≡ Some m) × (judge s m ≡ d))
judged_some s None d e = absurd (let h : None ≡ Some d = e in cc)
judged_some s (Some m) d e = (m, (refl, same_Some _ _ e))

-- it stays the first when bytes are put
first_stays : (held more m : List ℕ) → first_frame (frames held) ≡ Some m → first_frame (frames (held ++ more)) ≡ Some m
first_stays held more m e = ap first_frame (pass_law held more m e)

-- a message that stands at the very front still does when bytes are put
settled_stays : (held more m : List ℕ) → from_first_start held ≡ held → first_frame (frames held) ≡ Some m
    → from_first_start (held ++ more) ≡ held ++ more
settled_stays held more m settled e = by_frame (frame_at held) refl
  where
    by_frame : (o : Option ℕ) → frame_at held ≡ o → from_first_start (held ++ more) ≡ held ++ more
    by_frame (Some n) h = start_frame (held ++ more) n (frame_stays held more n h)
    by_frame None h =
        let none : first_frame (frames held) ≡ None = ap first_frame (no_frames held (ap frame_at settled ∙ h)) in
        absurd (let both : None ≡ Some m = sym none ∙ e in cc)

-- what is skipped first doesn't matter
passed_again : (held : List ℕ) → after_first_frame (from_first_start held) ≡ after_first_frame held
passed_again held = ap (λ t. past_frame (frame_at t) t) (start_again held)

pub judged_none : (s : Session) (o : Option (List ℕ)) → option_map (judge s) o ≡ None → o ≡ None
judged_none s None e = refl
judged_none s (Some m) e = absurd (let h : Some (judge s m) ≡ None = e in cc)

-- what it says
pub verdict_some : (r : ReaderState) (v : Verdict) → first_verdict r ≡ Some v → (m : List ℕ)
    × ((first_message r ≡ Some m) × ((judge r.session m).0 ≡ v))
verdict_some r v = by_first (first_message r)
  where
    by_first : (o : Option (List ℕ)) → option_map (λ m. (judge r.session m).0) o ≡ Some v → (m : List ℕ)
        × ((o ≡ Some m) × ((judge r.session m).0 ≡ v))
    by_first None e = absurd (let h : None ≡ Some v = e in cc)
    by_first (Some m) e = (m, (refl, same_Some _ _ e))

pub verdict_none : (r : ReaderState) → first_verdict r ≡ None → first_message r ≡ None
verdict_none r = by_first (first_message r)
  where
    by_first : (o : Option (List ℕ)) → option_map (λ m. (judge r.session m).0) o ≡ None → o ≡ None
    by_first None e = refl
    by_first (Some m) e = absurd (let h : Some (judge r.session m).0 ≡ None = e in cc)

-- ---- what is due

-- bytes are put
pub put_kept : (r : Inside) (held more : List ℕ) → IsKept r → held ≡ r.framer ++ more
    → IsKept (record { framer = held; session = r.session; verdict = r.verdict; due = r.due })
put_kept r held more kept e = record {
  settled = λ d due.
      let m = judged_some r.session (first_frame (frames r.framer)) (judgement_with r.session r.verdict d)
      (kept.known d due) in
      ap from_first_start e ∙ settled_stays r.framer more m.0 (kept.settled d due) m.1.0 ∙ sym e;
  known = λ d due.
      let m = judged_some r.session (first_frame (frames r.framer)) (judgement_with r.session r.verdict d)
      (kept.known d due) in
      ap (λ t. option_map (judge r.session) (first_frame (frames t))) e
      ∙ ap (option_map (judge r.session)) (first_stays r.framer more m.0 m.1.0) ∙ ap Some m.1.1;
}

-- bytes at which no frame stands are skipped
pub skipped_kept : (r : Inside) (held : List ℕ) → IsKept r → held ≡ from_first_start r.framer
    → IsKept (record { framer = held; session = r.session; verdict = r.verdict; due = r.due })
skipped_kept r held kept e = record {
  settled = λ d due. ap from_first_start e ∙ start_again r.framer ∙ sym e;
  known = λ d due.
      ap (λ t. option_map (judge r.session) (first_frame (frames t))) e
      ∙ ap (λ fs. option_map (judge r.session) (first_frame fs)) (start_frames r.framer) ∙ kept.known d due;
}

-- the first message is looked at
pub found_kept : (held now : List ℕ) (s : Session) (v : Verdict) (o : Option Change) → now ≡ from_first_start held
    → option_map (judgement_with s v) o ≡ option_map (judge s) (first_frame (frames held))
    → IsKept (record { framer = now; session = s; verdict = v; due = o })
found_kept held now s v o e f = record {
  settled = λ d due. ap from_first_start e ∙ start_again held ∙ sym e;
  known = λ d due. ap (λ t. option_map (judge s) (first_frame (frames t))) e
      ∙ ap (λ fs. option_map (judge s) (first_frame fs)) (start_frames held) ∙ sym f
      ∙ ap (option_map (judgement_with s v)) due;
}

-- ---- what is passed

pub same_state : (held held2 : List ℕ) (s s2 : Session) → held ≡ held2 → s ≡ s2
    → record { held = held; session = s } ≡ (let r : ReaderState = record { held = held2; session = s2 } in r)
same_state held held2 s s2 e f = rw (e, f) refl

-- no message stands
pub none_goes : (r : ReaderState) → first_message r ≡ None → after_skipping r ≡ after_passing r
none_goes r first =
    same_state (from_first_start r.held) (after_first_frame r.held) r.session (session_past r.session (first_message r))
    (sym (ap (λ o. past_frame o (from_first_start r.held)) (none_stands r.held first)))
    (sym (ap (session_past r.session) first))

pub none_passed : (r : ReaderState) → first_judgement r ≡ None → after_skipping r ≡ after_passing r
none_passed r none = none_goes r (judged_none r.session (first_message r) none)

-- the first message is passed, and the session after it is kept
pub one_passed : (r : ReaderState) (mid new : List ℕ) (d : Verdict × Session) (b : Bool) → mid ≡ from_first_start r.held
    → first_judgement r ≡ Some d → b ≡ is_some (first_frame (frames mid)) → OnTrue b (new ≡ after_first_frame mid) →
    record { held = new; session = d.1 } ≡ after_passing r
one_passed r mid new d b e due stands went =
    let m = judged_some r.session (first_message r) d due in
    let here : b ≡ true = stands ∙ ap (λ t. is_some (first_frame (frames t))) e
    ∙ ap (λ fs. is_some (first_frame fs)) (start_frames r.held) ∙ ap is_some m.1.0 in
    same_state new (after_first_frame r.held) d.1 (session_past r.session (first_message r))
    (on_true b here went ∙ ap after_first_frame e ∙ passed_again r.held)
    (sym (ap (session_past r.session) m.1.0 ∙ ap (λ v. v.1) m.1.1))

-- what was skipped before makes no difference
pub passed_skipped : (r : ReaderState) → after_passing (after_skipping r) ≡ after_passing r
passed_skipped r =
    same_state (after_first_frame (from_first_start r.held)) (after_first_frame r.held)
    (session_past r.session (first_message (after_skipping r))) (session_past r.session (first_message r))
    (passed_again r.held) (ap (λ fs. session_past r.session (first_frame fs)) (start_frames r.held))
