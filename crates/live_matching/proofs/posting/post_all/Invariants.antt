use Rattle.std.proofs.Common.{◌≡◌, ◌≤◌, ◌++◌, false, take, length}
use Rattle.gate_link_stages.specs.Posting.{posted, post_ended, SamePoster}
use Rattle.live_matching.proofs.posting.post_all.Given as goal

abbrev pub invariant-loop : goal.invariant-loop
invariant-loop g l = record {
  same : SamePoster l.initial.poster l.poster;
  open_ : post_ended l.poster ≡ false;
  within : l.done ≤ length l.bytes;
  gave : posted l.poster ≡ posted l.initial.poster ++ take l.done l.bytes;
}
