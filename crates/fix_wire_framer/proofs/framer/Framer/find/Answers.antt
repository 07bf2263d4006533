use Rattle.std.proofs.Common.{◌≡◌, ℕ, ◌+◌, ◌≤◌, List, length, drop, Option, Some, sym, ap, ◌∙◌, subst, arith}
use Rattle.std.specs.Option.{IfSome}
use Rattle.std.specs.List.{between}
use Rattle.fix_wire_frames.specs.Frames.{frame_at, IsFrame}
use Rattle.fix_wire_frames.specs.Held.{first_frame, from_first_start}
use Rattle.fix_wire_frames.specs.code.Tabled.{IsTableOf}
use Rattle.fix_wire_frames.proofs.fields.TableOfFields.{table_alone}
use Rattle.fix_wire_frames.proofs.framing.FrontStays.{frame_alone}
use Rattle.fix_wire_frames.proofs.framing.FramesHeld.{held_frames, no_frames}
use Rattle.fix_wire_framer.specs.FramePlaces.{EndsFirst}
use Rattle.fix_wire_framer.proofs.framing.HeldPart.{range_drop}
use Rattle.fix_wire_framer.proofs.framing.FrameFromAPlace.{frame_part, ends_first, ends_later}
use Rattle.fix_wire_framer.proofs.framer.Framer.find.Goals as goal
use Rattle.fix_wire_framer.proofs.framer.Framer.find.Goals.{After-first_start-skip, In-Some}

-- what was looked at is what is held from that place on
part : (c : After-first_start-skip) → between (c.self.inside.start + c.args.at) c.self.inside.end c.self.inside.buffer ≡
    drop c.args.at c.args.self.now
part c =
    let f = c.self.inside in
    range_drop f.buffer f.start c.args.at f.end ∙ ap (drop c.args.at) c.self.view_is

kept : (c : After-first_start-skip) → drop c.first_start-skip.result.0 (drop c.args.at c.args.self.now) ≡
    from_first_start (drop c.args.at c.args.self.now)
kept c = subst (λ (t : List ℕ). drop c.first_start-skip.result.0 t ≡ from_first_start t) (part c)
    c.first_start-skip.ensures.kept

found : (c : After-first_start-skip) → c.first_start-skip.result.1 ≡ frame_at
    (from_first_start (drop c.args.at c.args.self.now))
found c = subst (λ (t : List ℕ). c.first_start-skip.result.1 ≡ frame_at (from_first_start t)) (part c)
    c.first_start-skip.ensures.found

-- where the frame ends
ends : (c : In-Some) → EndsFirst c.args.self.now c.args.at (c.args.at + c.first_start-skip.result.0 + c.in-Some.length)
ends c =
    let at = c.args.at in
    let skip = c.first_start-skip.result.0 in
    let n = c.in-Some.length in
    let held = drop at c.args.self.now in
    let whole = subst (λ (t : List ℕ). skip + n ≤ length t) (part c.before)
    (subst (λ (o : Option ℕ). IfSome o (λ m. skip + m ≤ length
    (between (c.self.inside.start + at) c.self.inside.end c.self.inside.buffer))) c.in-Some.is
    c.first_start-skip.ensures.fits) in
    let later = ends_later c.args.self.now at (skip + n) c.requires
    (ends_first held skip n (kept c.before) (sym (found c.before) ∙ c.in-Some.is) whole) in
    subst (λ m. EndsFirst c.args.self.now at m) (omega arith) later

pub returns-in-Some-clause-first : goal.returns-in-Some-clause-first
returns-in-Some-clause-first c =
    let at = c.args.at in
    let n = c.in-Some.length in
    ap Some (frame_part c.args.self.now at c.first_start-skip.result.0 n
    (kept (goal.at.returns-in-Some-clause-first c).After-first_start-skip))
    ∙ sym (ap first_frame (held_frames (drop at c.args.self.now) n
    (sym (found (goal.at.returns-in-Some-clause-first c).After-first_start-skip) ∙ c.in-Some.is)))

pub returns-in-Some-clause-after : goal.returns-in-Some-clause-after
returns-in-Some-clause-after c = ends (goal.at.returns-in-Some-clause-after c).In-Some

pub returns-in-Some-clause-place : goal.returns-in-Some-clause-place
returns-in-Some-clause-place c =
    let at = c.args.at in
    let skip = c.first_start-skip.result.0 in
    let n = c.in-Some.length in
    let held = drop at c.args.self.now in
    let table = c.first_start-skip.new.table in
    let e = sym (found (goal.at.returns-in-Some-clause-place c).After-first_start-skip) ∙ c.in-Some.is in
    let known = subst (λ (t : List ℕ). IsTableOf (from_first_start t) table)
    (part (goal.at.returns-in-Some-clause-place c).After-first_start-skip)
    (c.first_start-skip.ensures.table n c.in-Some.is) in
    let same = sym (frame_part c.args.self.now at skip n
    (kept (goal.at.returns-in-Some-clause-place c).After-first_start-skip)) in
    record {
      order = omega arith;
      within = (ends (goal.at.returns-in-Some-clause-place c).In-Some).1;
      lawful = subst IsFrame same (frame_alone (from_first_start held) n e);
      tabled = subst (λ (t : List ℕ). IsTableOf t table) same (table_alone (from_first_start held) n table e known);
    }

pub returns-in-None-clause-first : goal.returns-in-None-clause-first
returns-in-None-clause-first c = sym (ap first_frame
    (no_frames (drop c.args.at c.args.self.now) (sym (found
    (goal.at.returns-in-None-clause-first c).After-first_start-skip) ∙ c.in-None.is)))
