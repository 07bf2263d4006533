use Rattle.std.proofs.Common.{◌≡◌, ◌+◌, ℕ, List, sym, ◌∙◌, subst}
use Rattle.std.specs.List.{between}
use Rattle.fix_wire_frames.specs.Frames.{IsFrame}
use Rattle.fix_wire_frames.specs.code.Tabled.{IsTableOf}
use Rattle.fix_wire_framer.specs.FramePlaces.{frame_of}
use Rattle.fix_wire_framer.proofs.framing.FrontFrame.{place_held}
use Rattle.fix_wire_framer.proofs.framer.Framer.message.Goals as goal
use Rattle.fix_wire_framer.proofs.framer.Framer.message.Goals.{After-self}

part : (c : After-self) → between (c.self.inside.start + c.args.place.start) (c.self.inside.start + c.args.place.end)
    c.self.inside.buffer ≡ frame_of c.args.self.now c.args.place
part c = place_held c.self.inside c.args.self.now c.args.place c.self.told c.self.invariant c.self.view_is
    c.requires.order c.requires.within

pub of_frame-requires-clause-lawful : goal.of_frame-requires-clause-lawful
of_frame-requires-clause-lawful c = subst IsFrame (sym (part (goal.at.of_frame-requires-clause-lawful c).After-self))
    c.requires.lawful

pub of_frame-requires-clause-tabled : goal.of_frame-requires-clause-tabled
of_frame-requires-clause-tabled c = subst (λ (t : List ℕ). IsTableOf t c.args.table.now)
    (sym (part (goal.at.of_frame-requires-clause-tabled c).After-self)) c.requires.tabled

pub returns : goal.returns
returns c = c.of_frame.ensures ∙ part (goal.at.returns c).After-self
