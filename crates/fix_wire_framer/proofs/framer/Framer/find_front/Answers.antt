use Rattle.fix_wire_framer.proofs.framing.FrontFrame.{front_known, front_fits}
use Rattle.fix_wire_framer.proofs.framer.Framer.find_front.Goals as goal

pub returns-then-self-gt0-clause-found : goal.returns-then-self-gt0-clause-found
returns-then-self-gt0-clause-found c = front_known c.self.inside c.args.self.now c.self.invariant c.self.view_is
    c.if-self-gt0.true

pub returns-then-self-gt0-clause-fits : goal.returns-then-self-gt0-clause-fits
returns-then-self-gt0-clause-fits c = front_fits c.self.inside c.args.self.now c.self.invariant c.self.view_is
    c.if-self-gt0.true
