use Rattle.std.proofs.Common.{◌≡◌, ◌≤◌, ℕ, [], vec_len, vec_capacity}
use Rattle.live_matching.specs.code.Posting.{posted_at, NoneEnded}
use Rattle.live_writers.specs.code.Writing.{ArePostPairs}
use Rattle.live_day.proofs.stages.writer_rings.Given as goal

abbrev pub invariant-loop-s : goal.invariant-loop-s
invariant-loop-s g l = record {
  posters : vec_len l.posters ≡ l.s;
  writers : vec_len l.writers ≡ l.s;
  room : (l.sessions ≤ vec_capacity l.posters) × (l.sessions ≤ vec_capacity l.writers);
  pairs : ArePostPairs l.posters.items l.writers.items;
  none : (s : ℕ) → posted_at l.posters.items s ≡ [];
  open_ : NoneEnded l.posters.items;
}
