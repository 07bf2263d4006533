use Rattle.gate_link_stages.specs.Posting.{SameWriter}
use Rattle.live_writers.proofs.writing.write_all.Given as goal

abbrev pub invariant-loop : goal.invariant-loop
invariant-loop g l = SameWriter l.initial.writer l.writer
