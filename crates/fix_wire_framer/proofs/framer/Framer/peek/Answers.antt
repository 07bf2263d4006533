use Rattle.std.proofs.Common.{ℕ, List, take, Some, sym, ap, ◌∙◌, subst, arith}
use Rattle.std.proofs.lemmas.Bool.{false≢true}
use Rattle.fix_wire_frames.specs.Frames.{frame_at, IsFrame}
use Rattle.fix_wire_frames.specs.code.Tabled.{IsTableOf}
use Rattle.fix_wire_frames.specs.Held.{first_frame}
use Rattle.fix_wire_framer.proofs.framing.HeldPart.{range_take}
use Rattle.fix_wire_framer.proofs.framing.FrontFrame.{skip_within}
use Rattle.fix_wire_frames.proofs.framing.FrontStays.{frame_within, frame_alone}
use Rattle.fix_wire_frames.proofs.fields.TableOfFields.{table_alone}
use Rattle.fix_wire_frames.proofs.framing.FramesHeld.{held_frames, no_frames}
use Rattle.fix_wire_framer.proofs.framer.Framer.peek.Goals as goal

pub of_frame-requires-clause-lawful : goal.of_frame-requires-clause-lawful
of_frame-requires-clause-lawful c =
    let f = c.self.inside in
    let len = c.in-Some.length in
    let e = sym c.requires.front ∙ c.in-Some.is in
    subst IsFrame (ap (take len) (sym c.self.view_is) ∙ sym
    (range_take f.buffer f.start len f.end (skip_within f len c.args.self.now c.self.told c.self.invariant
    c.self.view_is (frame_within c.args.self.now len e).1))) (frame_alone c.args.self.now len e)

pub of_frame-requires-clause-tabled : goal.of_frame-requires-clause-tabled
of_frame-requires-clause-tabled c =
    let f = c.self.inside in
    let now = c.args.self.now in
    let len = c.in-Some.length in
    let e = sym c.requires.front ∙ c.in-Some.is in
    let range = range_take f.buffer f.start len f.end (skip_within f len now c.self.told c.self.invariant c.self.view_is
    (frame_within now len e).1) in
    let tabled = subst (λ (t : List ℕ). IsTableOf t f.table) c.self.view_is
    (c.self.invariant.tabled (λ z. absurd (omega (arith, z, c.if-self-gt0.true)))) in
    subst (λ (t : List ℕ). IsTableOf t f.table) (ap (take len) (sym c.self.view_is) ∙ sym range)
    (table_alone now len f.table e tabled)

pub returns-then-self-gt0 : goal.returns-then-self-gt0
returns-then-self-gt0 c =
    let f = c.self.inside in
    let now = c.args.self.now in
    let len = c.in-Some.length in
    let e = sym c.requires.front ∙ c.in-Some.is in
    ap Some (c.of_frame.ensures ∙ range_take f.buffer f.start len f.end
    (skip_within f len c.args.self.now c.self.told c.self.invariant c.self.view_is
    (frame_within c.args.self.now len e).1) ∙ ap (take len) (c.self.view_is ∙ sym c.requires.settled))
    ∙ sym (ap first_frame (held_frames now len (ap frame_at c.requires.settled ∙ e)))

pub returns-in-Some-whole : goal.returns-in-Some-whole
returns-in-Some-whole c =
    let f = c.self.inside in
    let now = c.args.self.now in
    let len = c.in-Some.length in
    let e = sym c.requires.front ∙ c.in-Some.is in
    ap Some (c.in-Some-whole.ensures.same ∙ range_take f.buffer f.start len f.end
    (skip_within f len c.args.self.now c.self.told c.self.invariant c.self.view_is
    (frame_within c.args.self.now len e).1) ∙ ap (take len) (c.self.view_is ∙ sym c.requires.settled))
    ∙ sym (ap first_frame (held_frames now len (ap frame_at c.requires.settled ∙ e)))

pub returns-in-None-whole : goal.returns-in-None-whole
returns-in-None-whole c =
    let f = c.self.inside in
    let len = c.in-Some.length in
    let e = sym c.requires.front ∙ c.in-Some.is in
    let lawful = subst IsFrame (ap (take len) (sym c.self.view_is)
    ∙ sym (range_take f.buffer f.start len f.end (skip_within f len c.args.self.now c.self.told c.self.invariant
    c.self.view_is (frame_within c.args.self.now len e).1))) (frame_alone c.args.self.now len e) in
    absurd (false≢true (c.in-None.ensures.only.1 lawful))

pub returns-in_default : goal.returns-in_default
returns-in_default c = sym (ap first_frame (no_frames c.args.self.now
    (ap frame_at c.requires.settled ∙ sym c.requires.front ∙ c.in_default.is)))

pub slice_bounds-frame-end : goal.slice_bounds-frame-end
slice_bounds-frame-end c =
    let f = c.self.inside in
    let len = c.in-Some.length in
    let within = (frame_within c.args.self.now len (sym c.requires.front ∙ c.in-Some.is)).1 in
    let fits = skip_within f len c.args.self.now c.self.told c.self.invariant c.self.view_is within in
    omega (arith, fits, c.self.invariant.room)
