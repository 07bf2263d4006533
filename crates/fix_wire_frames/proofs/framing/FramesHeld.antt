-- The frames of what is held, whatever follows it.
use Rattle.std.proofs.Common.{◌≡◌, ℕ, zero, suc, ◌+◌, ◌-◌, ◌<◌, ◌≤◌, Bool, true, false, cond, List, [], ◌∷◌, ◌++◌, length, get_or, take, drop, Option, Some, None, refl, sym, ap, ◌∙◌, arith, ◌⊎◌, inl, inr}
use Rattle.std.proofs.lemmas.List.{take-append-le, drop-append-le, append-nil, drop_more}
use Rattle.std.proofs.lemmas.Option.{none-some, same_Some}
use Rattle.fix_wire_frames.proofs.framing.FrontStays.{frame_stays, frame_within, nothing_stays, begins_short}
use Rattle.fix_wire_frames.specs.declared.frame.Scan.TheVariants.{Frame, Incomplete, Garbled}
use Rattle.fix_wire_frames.specs.Frames.{frame_at, may_begin, frames, frames_after}
use Rattle.fix_wire_frames.specs.code.Scans.{scan_with}
use Rattle.fix_wire_frames.specs.Held.{first_frame, from_first_start, past_frame, after_first_frame}

pub frames_after_drop : (skip : ℕ) (bs : List ℕ) → frames_after skip bs ≡ frames (drop skip bs)
frames_after_drop zero bs = refl
frames_after_drop (suc skip) [] = refl
frames_after_drop (suc skip) (b ∷ bs) = frames_after_drop skip bs

-- what frame_at and may_begin give for each look
pub front_frame : (o : Option ℕ) (m : Bool) (n : ℕ) → scan_with m o ≡ Frame n → o ≡ Some n
front_frame None true n e = cc
front_frame None false n e = cc
front_frame (Some k) m n e = cc

pub front_incomplete : (o : Option ℕ) (m : Bool) → scan_with m o ≡ Incomplete → (o ≡ None) × (m ≡ true)
front_incomplete None true e = (refl, refl)
front_incomplete None false e = cc
front_incomplete (Some k) m e = cc

pub front_garbled : (o : Option ℕ) (m : Bool) → scan_with m o ≡ Garbled → (o ≡ None) × (m ≡ false)
front_garbled None true e = cc
front_garbled None false e = (refl, refl)
front_garbled (Some k) m e = cc

start_by : (b : ℕ) (bs : List ℕ) → Option ℕ → Bool → List ℕ
start_by b bs None true = b ∷ bs
start_by b bs None false = from_first_start bs
start_by b bs (Some n) m = b ∷ bs

pub start_frame : (text : List ℕ) (n : ℕ) → frame_at text ≡ Some n → from_first_start text ≡ text
start_frame [] n e = refl
start_frame (b ∷ bs) n e = ap (λ o. elim o as (λ x. List ℕ)
    [ Some k ↦ b ∷ bs | None ↦ cond (may_begin (b ∷ bs)) (b ∷ bs) (from_first_start bs) ]) e

pub start_partial : (text : List ℕ) → frame_at text ≡ None → may_begin text ≡ true → from_first_start text ≡ text
start_partial [] e m = refl
start_partial (b ∷ bs) e m =
    ap (λ o. elim o as (λ x. List ℕ) [
      | Some k ↦ b ∷ bs
      | None ↦
          cond (may_begin (b ∷ bs)) (b ∷ bs) (from_first_start bs)
    ]) e
    ∙ ap (λ v. cond v (b ∷ bs) (from_first_start bs)) m

pub start_nothing : (b : ℕ) (bs : List ℕ) → frame_at (b ∷ bs) ≡ None → may_begin (b ∷ bs) ≡ false
    → from_first_start (b ∷ bs) ≡ from_first_start bs
start_nothing b bs e m =
    ap (λ o. elim o as (λ x. List ℕ) [
      | Some k ↦ b ∷ bs
      | None ↦
          cond (may_begin (b ∷ bs)) (b ∷ bs) (from_first_start bs)
    ]) e
    ∙ ap (λ v. cond v (b ∷ bs) (from_first_start bs)) m

drop_tail : (b : ℕ) (bs : List ℕ) (n : ℕ) → 0 < n → drop (n - 1) bs ≡ drop n (b ∷ bs)
drop_tail b bs zero h = absurd (omega arith)
drop_tail b bs (suc n) h = ap (λ k. drop k bs) (omega arith)

pub frames_frame : (text : List ℕ) (n : ℕ) → frame_at text ≡ Some n → 0 < n
    → frames text ≡ take n text ∷ frames (drop n text)
frames_frame [] n e some = cc
frames_frame (b ∷ bs) n e some =
    ap (λ o. elim o as (λ x. List (List ℕ)) [
      | Some k ↦ take k (b ∷ bs) ∷ frames_after (k - 1) bs
      | None ↦
          cond (may_begin (b ∷ bs)) [] (frames_after 0 bs)
    ]) e
    ∙ ap (λ fs. take n (b ∷ bs) ∷ fs) (frames_after_drop (n - 1) bs ∙ ap frames (drop_tail b bs n some))

pub frames_partial : (text : List ℕ) → frame_at text ≡ None → may_begin text ≡ true → frames text ≡ []
frames_partial [] e m = refl
frames_partial (b ∷ bs) e m =
    ap (λ o. elim o as (λ x. List (List ℕ)) [
      | Some n ↦ take n (b ∷ bs) ∷ frames_after (n - 1) bs
      | None ↦
          cond (may_begin (b ∷ bs)) [] (frames_after 0 bs)
    ]) e
    ∙ ap (λ v. cond v [] (frames_after 0 bs)) m

pub frames_nothing : (b : ℕ) (bs : List ℕ) → frame_at (b ∷ bs) ≡ None → may_begin (b ∷ bs) ≡ false
    → frames (b ∷ bs) ≡ frames bs
frames_nothing b bs e m =
    ap (λ o. elim o as (λ x. List (List ℕ)) [
      | Some n ↦ take n (b ∷ bs) ∷ frames_after (n - 1) bs
      | None ↦
          cond (may_begin (b ∷ bs)) [] (frames_after 0 bs)
    ]) e
    ∙ ap (λ v. cond v [] (frames_after 0 bs)) m

-- what a text is: a frame stands, one may begin, or neither
abbrev pub FrontCase : List ℕ → Type 0
FrontCase text = ((n : ℕ) × (frame_at text ≡ Some n)) ⊎
    (((frame_at text ≡ None) × (may_begin text ≡ true)) ⊎ ((frame_at text ≡ None) × (may_begin text ≡ false)))

pub front_case : (text : List ℕ) → FrontCase text
front_case text = by_frame (frame_at text) refl (may_begin text) refl
  where
    by_frame : (o : Option ℕ) → o ≡ frame_at text → (m : Bool) → m ≡ may_begin text
        → ((n : ℕ) × (frame_at text ≡ Some n)) ⊎ (((frame_at text ≡ None) × (may_begin text ≡ true)) ⊎
        ((frame_at text ≡ None) × (may_begin text ≡ false)))
    by_frame (Some n) o m e = inl (n, sym o)
    by_frame None o true e = inr (inl (sym o, sym e))
    by_frame None o false e = inr (inr (sym o, sym e))

-- the bytes that go have no part in any frame
pub scan_start : (held more : List ℕ) → frames (from_first_start held ++ more) ≡ frames (held ++ more)
scan_start [] more = refl
scan_start (b ∷ bs) more = by_case (scan_start bs more) (front_case (b ∷ bs))
  where
    by_case : frames (from_first_start bs ++ more) ≡ frames (bs ++ more) → FrontCase (b ∷ bs)
        → frames (from_first_start (b ∷ bs) ++ more) ≡ frames ((b ∷ bs) ++ more)
    by_case ih (inl f) = ap (λ t. frames (t ++ more)) (start_frame (b ∷ bs) f.0 f.1)
    by_case ih (inr (inl p)) = ap (λ t. frames (t ++ more)) (start_partial (b ∷ bs) p.0 p.1)
    by_case ih (inr (inr p)) =
        let later = nothing_stays (b ∷ bs) more p.0 p.1 in
        ap (λ t. frames (t ++ more)) (start_nothing b bs p.0 p.1) ∙ ih
        ∙ sym (frames_nothing b (bs ++ more) later.0 later.1)

-- what is at the front after the bytes went
pub start_again : (held : List ℕ) → from_first_start (from_first_start held) ≡ from_first_start held
start_again [] = refl
start_again (b ∷ bs) = by_case (start_again bs) (front_case (b ∷ bs))
  where
    by_case : from_first_start (from_first_start bs) ≡ from_first_start bs → FrontCase (b ∷ bs)
        → from_first_start (from_first_start (b ∷ bs)) ≡ from_first_start (b ∷ bs)
    by_case ih (inl f) = ap from_first_start (start_frame (b ∷ bs) f.0 f.1)
    by_case ih (inr (inl p)) = ap from_first_start (start_partial (b ∷ bs) p.0 p.1)
    by_case ih (inr (inr p)) =
        let e = start_nothing b bs p.0 p.1 in
        ap from_first_start e ∙ ih ∙ sym e

-- at each place that goes, no frame stands or may begin
pub passed_over : (held : List ℕ) (k : ℕ) → k + length (from_first_start held) < length held
    → (frame_at (drop k held) ≡ None) × (may_begin (drop k held) ≡ false)
passed_over [] k l = absurd (omega arith)
passed_over (b ∷ bs) k l = by_case (λ j h. passed_over bs j h) k l (front_case (b ∷ bs))
  where
    by_case : ((j : ℕ) → j + length (from_first_start bs) < length bs → (frame_at (drop j bs) ≡ None)
        × (may_begin (drop j bs) ≡ false)) → (k : ℕ) → k + length (from_first_start (b ∷ bs)) < length (b ∷ bs)
        → FrontCase (b ∷ bs) → (frame_at (drop k (b ∷ bs)) ≡ None) × (may_begin (drop k (b ∷ bs)) ≡ false)
    by_case ih k l (inl f) = let e = ap length (start_frame (b ∷ bs) f.0 f.1) in absurd (omega (arith, e, l))
    by_case ih k l (inr (inl p)) = let e = ap length (start_partial (b ∷ bs) p.0 p.1) in absurd (omega (arith, e, l))
    by_case ih zero l (inr (inr p)) = p
    by_case ih (suc j) l (inr (inr p)) = let e = ap length (start_nothing b bs p.0 p.1) in ih j (omega (arith, e, l))

pub start_shorter : (held : List ℕ) → length (from_first_start held) ≤ length held
start_shorter [] = omega arith
start_shorter (b ∷ bs) = by_case (start_shorter bs) (front_case (b ∷ bs))
  where
    by_case : length (from_first_start bs) ≤ length bs → FrontCase (b ∷ bs)
        → length (from_first_start (b ∷ bs)) ≤ length (b ∷ bs)
    by_case ih (inl f) = let e = ap length (start_frame (b ∷ bs) f.0 f.1) in omega (arith, e)
    by_case ih (inr (inl p)) = let e = ap length (start_partial (b ∷ bs) p.0 p.1) in omega (arith, e)
    by_case ih (inr (inr p)) = let e = ap length (start_nothing b bs p.0 p.1) in omega (arith, e, ih)

-- and what stays is the rest
pub rest_stays : (held : List ℕ) (k : ℕ) → k + length (from_first_start held) ≡ length held
    → from_first_start held ≡ drop k held
rest_stays [] k e = sym (ap (λ n. drop n []) (no_place k e))
  where
    no_place : (k : ℕ) → k + 0 ≡ 0 → k ≡ 0
    no_place k e = omega arith
rest_stays (b ∷ bs) k e = by_case (λ j h. rest_stays bs j h) (start_shorter bs) k e (front_case (b ∷ bs))
  where
    none : (k n : ℕ) → k + n ≡ n → k ≡ 0
    none k n e = omega arith

    by_case : ((j : ℕ) → j + length (from_first_start bs) ≡ length bs → from_first_start bs ≡ drop j bs)
        → length (from_first_start bs) ≤ length bs → (k : ℕ) → k + length (from_first_start (b ∷ bs)) ≡ length (b ∷ bs)
        → FrontCase (b ∷ bs) → from_first_start (b ∷ bs) ≡ drop k (b ∷ bs)
    by_case ih less k e (inl f) =
        let s = start_frame (b ∷ bs) f.0 f.1 in
        let zero_k : k ≡ 0 = none k (length (b ∷ bs)) (ap (λ t. k + length t) (sym s) ∙ e) in
        s ∙ sym (ap (λ n. drop n (b ∷ bs)) zero_k)
    by_case ih less k e (inr (inl p)) =
        let s = start_partial (b ∷ bs) p.0 p.1 in
        let zero_k : k ≡ 0 = none k (length (b ∷ bs)) (ap (λ t. k + length t) (sym s) ∙ e) in
        s ∙ sym (ap (λ n. drop n (b ∷ bs)) zero_k)
    by_case ih less zero e (inr (inr p)) = let s = ap length (start_nothing b bs p.0 p.1) in
        absurd (omega (arith, e, s, less))
    by_case ih less (suc j) e (inr (inr p)) = let s = ap length (start_nothing b bs p.0 p.1) in
        start_nothing b bs p.0 p.1 ∙ ih j (omega (arith, e, s))

-- after the bytes went, a frame stands or may begin
pub start_settled : (held : List ℕ) → frame_at (from_first_start held) ≡ None → may_begin (from_first_start held) ≡ true
start_settled [] e = refl
start_settled (b ∷ bs) e = by_case (λ h. start_settled bs h) (front_case (b ∷ bs))
  where
    by_case : (frame_at (from_first_start bs) ≡ None → may_begin (from_first_start bs) ≡ true) → FrontCase (b ∷ bs)
        → may_begin (from_first_start (b ∷ bs)) ≡ true
    by_case ih (inl f) = absurd (none-some f.0 (sym e ∙ ap frame_at (start_frame (b ∷ bs) f.0 f.1) ∙ f.1))
    by_case ih (inr (inl p)) = ap may_begin (start_partial (b ∷ bs) p.0 p.1) ∙ p.1
    by_case ih (inr (inr p)) =
        let s = start_nothing b bs p.0 p.1 in
        ap may_begin s ∙ ih (sym (ap frame_at s) ∙ e)

-- after a frame, the frames of what follows it
pub scan_frame : (text more : List ℕ) (n : ℕ) → frame_at text ≡ Some n
    → frames (text ++ more) ≡ take n text ∷ frames (drop n text ++ more)
scan_frame text more n e =
    let within = frame_within text n e in
    frames_frame (text ++ more) n (frame_stays text more n e) (omega (arith, within.0))
    ∙ ap (λ t. t ∷ frames (drop n (text ++ more))) (take-append-le n text more within.1)
    ∙ ap (λ t. take n text ∷ frames t) (drop-append-le n text more within.1)

pub start_frames : (held : List ℕ) → frames (from_first_start held) ≡ frames held
start_frames held = sym (ap frames (append-nil (from_first_start held))) ∙ scan_start held []
    ∙ ap frames (append-nil held)

-- the frames of what is held
pub held_frames : (held : List ℕ) (n : ℕ) → frame_at (from_first_start held) ≡ Some n
    → frames held ≡ take n (from_first_start held) ∷ frames (drop n (from_first_start held))
held_frames held n e =
    let s = start_frames held in
    let within = frame_within (from_first_start held) n e in
    sym s ∙ frames_frame (from_first_start held) n e (omega (arith, within.0))

pub no_frames : (held : List ℕ) → frame_at (from_first_start held) ≡ None → frames held ≡ []
no_frames held e = sym (start_frames held) ∙ frames_partial (from_first_start held) e (start_settled held e)

pub start_next : (held : List ℕ) (at : ℕ) → at < length held → frame_at (drop at held) ≡ None
    → may_begin (drop at held) ≡ false → from_first_start (drop at held) ≡ from_first_start (drop (at + 1) held)
start_next held at l f m =
    let e = drop_more held at 0 l in
    ap from_first_start e ∙ start_nothing (get_or held at 0) (drop (at + 1) held) (sym (ap frame_at e) ∙ f)
    (sym (ap may_begin e) ∙ m)

pub front_other : (o : Option ℕ) (m : Bool) → ((x : ℕ) → scan_with m o ≡ Frame x → ⊥) → o ≡ None
front_other None m h = refl
front_other (Some n) m h = absurd (h n refl)

pub none_stands : (held : List ℕ) → first_frame (frames held) ≡ None → frame_at (from_first_start held) ≡ None
none_stands held e = by_frame (frame_at (from_first_start held)) refl
  where
    by_frame : (o : Option ℕ) → o ≡ frame_at (from_first_start held) → frame_at (from_first_start held) ≡ None
    by_frame None o = sym o
    by_frame (Some n) o = absurd (none-some _ (sym e ∙ ap first_frame (held_frames held n (sym o))))

-- after Need there is room
pub room_left : (held : List ℕ) → first_frame (frames held) ≡ None → length (from_first_start held) < 4124
room_left held e = let n = none_stands held e in begins_short (from_first_start held) (start_settled held n)

-- the same, by the first of the frames
pub pass_law : (held more frame : List ℕ) → first_frame (frames held) ≡ Some frame
    → frames (held ++ more) ≡ frame ∷ frames (after_first_frame held ++ more)
pass_law held more frame e = by_frame (frame_at (from_first_start held)) refl
  where
    by_frame : (o : Option ℕ) → o ≡ frame_at (from_first_start held)
        → frames (held ++ more) ≡ frame ∷ frames (after_first_frame held ++ more)
    by_frame None o = absurd (none-some frame (sym (ap first_frame (no_frames held (sym o))) ∙ e))
    by_frame (Some n) o =
        let stands = held_frames held n (sym o) in
        let same = same_Some _ _ (sym (ap first_frame stands) ∙ e) in
        sym (scan_start held more) ∙ scan_frame (from_first_start held) more n (sym o)
        ∙ ap (λ f. f ∷ frames (drop n (from_first_start held) ++ more)) same
        ∙ ap (λ x. frame ∷ frames (past_frame x (from_first_start held) ++ more)) o
