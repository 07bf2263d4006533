use Rattle.fix_session.proofs.readers.FirstMessage.{found_kept}
use Rattle.fix_session.proofs.reader.Reader.look.Goals as goal

pub invariant_of-self : goal.invariant_of-self
invariant_of-self c =
    found_kept c.self.inside.framer c.find_due.new.framer c.self.inside.session c.find_due.new.verdict
    c.find_due.new.due c.find_due.ensures.held c.find_due.ensures.found
