use Rattle.std.proofs.Common.{ℕ, List, refl, sym, ap, ◌∙◌, subst}
use Rattle.fix_wire_framer.specs.code.FramerFields.{held_of}
use Rattle.fix_wire_frames.specs.Frames.{frame_at}
use Rattle.fix_wire_frames.specs.Held.{from_first_start}
use Rattle.fix_wire_frames.specs.code.Tabled.{IsTableOf}
use Rattle.fix_wire_framer.proofs.framing.HeldPart.{range_drop}
use Rattle.fix_wire_framer.proofs.framing.FrontFrame.{skip_within, front_known}
use Rattle.fix_wire_framer.proofs.framer.Framer.skip_garbled.Goals as goal

pub invariant_of-self : goal.invariant_of-self
invariant_of-self c =
    let f = c.self.inside in
    let skip = c.first_start_in-skip.result.0 in
    let now_is = range_drop f.buffer f.start skip f.end ∙ c.first_start_in-skip.ensures.kept in
    let found = sym c.first_start_in-skip.ensures.found ∙ c.in-Some.is in
    record {
      order = skip_within f skip (held_of f) c.self.told c.self.invariant refl c.first_start_in-skip.ensures.within;
      room = c.self.invariant.room;
      known = λ some. ap frame_at now_is ∙ found;
      tabled = λ some. subst (λ (t : List ℕ). IsTableOf t c.first_start_in-skip.new.table) (sym now_is)
          (c.first_start_in-skip.ensures.table c.in-Some.length c.in-Some.is);
    }

pub returns-then-self-gt0-clause-found : goal.returns-then-self-gt0-clause-found
returns-then-self-gt0-clause-found c = front_known c.self.inside c.args.self.now c.self.invariant c.self.view_is
    c.if-self-gt0.true

pub returns-in-Some-clause-kept : goal.returns-in-Some-clause-kept
returns-in-Some-clause-kept c =
    let f = c.self.inside in
    range_drop f.buffer f.start c.first_start_in-skip.result.0 f.end ∙ c.first_start_in-skip.ensures.kept
    ∙ ap from_first_start c.self.view_is

pub returns-in_default-clause-kept : goal.returns-in_default-clause-kept
returns-in_default-clause-kept c =
    let f = c.self.inside in
    range_drop f.buffer f.start c.first_start_in-skip.result.0 f.end ∙ c.first_start_in-skip.ensures.kept
    ∙ ap from_first_start c.self.view_is
