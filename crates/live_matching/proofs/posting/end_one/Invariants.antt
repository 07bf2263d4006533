use Rattle.std.proofs.Common.{◌≡◌}
use Rattle.gate_link_stages.specs.Posting.{posted, SamePoster}
use Rattle.live_matching.proofs.posting.end_one.Given as goal

abbrev pub invariant-loop : goal.invariant-loop
invariant-loop g l = record {
  same : SamePoster l.initial.poster l.poster;
  gave : posted l.poster ≡ posted l.initial.poster;
}
