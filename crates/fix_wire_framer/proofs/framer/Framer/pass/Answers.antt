use Rattle.std.proofs.Common.{◌+◌, is_some, drop, sym, ap, ◌∙◌}
use Rattle.std.proofs.lemmas.List.{drop-drop}
use Rattle.std.specs.List.{between}
use Rattle.fix_wire_frames.specs.Held.{first_frame, from_first_start, past_frame}
use Rattle.fix_wire_framer.proofs.framing.HeldPart.{range_drop}
use Rattle.fix_wire_frames.proofs.framing.FramesHeld.{held_frames, no_frames}
use Rattle.fix_wire_framer.proofs.framer.Framer.pass.Goals as goal

pub returns-in-Some-clause-stands : goal.returns-in-Some-clause-stands
returns-in-Some-clause-stands c =
    let e = sym c.find_front-skip.ensures.found ∙ c.in-Some.is in
    sym (ap (λ fs. is_some (first_frame fs)) (held_frames c.args.self.now c.in-Some.length e))

pub returns-in-Some-clause-passed : goal.returns-in-Some-clause-passed
returns-in-Some-clause-passed c =
    let f = c.self.inside in
    let skip = c.find_front-skip.result.0 in
    let len = c.in-Some.length in
    let e = sym c.find_front-skip.ensures.found ∙ c.in-Some.is in
    range_drop f.buffer f.start (skip + len) f.end
    ∙ sym (drop-drop len skip (between f.start f.end f.buffer))
    ∙ ap (λ t. drop len t) (ap (λ t. drop skip t) c.self.view_is ∙ c.find_front-skip.ensures.kept)
    ∙ sym (ap (λ o. past_frame o (from_first_start c.args.self.now)) e)

pub returns-in-None-clause-stands : goal.returns-in-None-clause-stands
returns-in-None-clause-stands c =
    let e = sym c.find_front-skip.ensures.found ∙ c.in-None.is in
    sym (ap (λ fs. is_some (first_frame fs)) (no_frames c.args.self.now e))
