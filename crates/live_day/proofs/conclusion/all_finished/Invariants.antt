use Rattle.std.proofs.Common.{◌≡◌, ◌≤◌, ◌<◌, ℕ, get_or}
use Rattle.gate_link_stages.specs.declared.post.Poster.{Poster}
use Rattle.live_matching.specs.code.Posting.{posted_at}
use Rattle.live_writers.specs.code.Writing.{written_at}
use Rattle.live_writers.specs.declared.writing.Written.{Written}
use Rattle.live_day.proofs.conclusion.all_finished.Given as goal

abbrev pub invariant-loop-s : goal.invariant-loop-s
invariant-loop-s g l = record {
  done : (s : ℕ) → s < l.s → written_at l.written s ≡ posted_at l.initial.posters s;
  posters_left : (s : ℕ) (p : Poster _) → l.s ≤ s → get_or l.posters s p ≡ get_or l.initial.posters s p;
  written_left : (s : ℕ) (w : Written _) → l.s ≤ s → get_or l.written s w ≡ get_or l.initial.written s w;
}
