use Rattle.gate_link.proofs.open.link.Goals as goal

pub returns-clause-pairs : goal.returns-clause-pairs
returns-clause-pairs g c = rw c.new.ensures.0 c.in-Ok.ensures.pairs
