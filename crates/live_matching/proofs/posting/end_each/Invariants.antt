use Rattle.std.proofs.Common.{◌≡◌, ℕ}
use Rattle.live_matching.specs.code.Posting.{posted_at, SamePosters}
use Rattle.live_matching.proofs.posting.end_each.Given as goal

abbrev pub invariant-loop-s : goal.invariant-loop-s
invariant-loop-s g l = record {
  same : SamePosters l.initial.posters l.posters;
  gave : (s : ℕ) → posted_at l.posters s ≡ posted_at l.initial.posters s;
}
