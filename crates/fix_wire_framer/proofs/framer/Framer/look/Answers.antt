use Rattle.std.proofs.Common.{Some, sym, ap, ◌∙◌, subst}
use Rattle.std.proofs.lemmas.Bool.{false≢true}
use Rattle.std.proofs.lemmas.Option.{same_Some}
use Rattle.fix_wire_frames.specs.Frames.{IsFrame}
use Rattle.fix_wire_framer.specs.FramePlaces.{EndsFirst}
use Rattle.fix_wire_framer.proofs.framing.FrontFrame.{place_held}
use Rattle.fix_wire_framer.proofs.framer.Framer.look.Goals as goal

pub returns-in-Some-whole-clause-first : goal.returns-in-Some-whole-clause-first
returns-in-Some-whole-clause-first c =
    let place = c.in-Some.ensures.place in
    ap Some (c.in-Some-whole.ensures.same ∙ place_held c.self.inside c.args.self.now c.in-Some.place c.self.told
    c.self.invariant c.self.view_is place.order place.within) ∙ c.in-Some.ensures.first

pub returns-in-Some-whole-clause-after : goal.returns-in-Some-whole-clause-after
returns-in-Some-whole-clause-after c n same = subst (λ m. EndsFirst c.args.self.now c.args.at m) (same_Some _ _ same)
    c.in-Some.ensures.after

pub returns-in-None-clause-first : goal.returns-in-None-clause-first
returns-in-None-clause-first c =
    let place = c.in-Some.ensures.place in
    let lawful = subst IsFrame (sym (place_held c.self.inside c.args.self.now c.in-Some.place c.self.told
    c.self.invariant c.self.view_is place.order place.within)) place.lawful in
    absurd (false≢true (c.in-None.ensures.only.1 lawful))
