use Rattle.std.proofs.Common.{◌≡◌, ℕ, ◌<◌, length, get_or}
use Rattle.spread_report_outbound.specs.Sessions.{bytes_of}
use Rattle.spread_report_outbound.proofs.taking_back.note_lengths.Given as goal

abbrev pub invariant-loop-s : goal.invariant-loop-s
invariant-loop-s g l = record {
  size : length l.lengths ≡ 16;
  done : (t : ℕ) → t < l.s → get_or l.lengths t 0 ≡ length (bytes_of l.lists t);
}
