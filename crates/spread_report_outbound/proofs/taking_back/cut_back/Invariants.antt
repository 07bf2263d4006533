use Rattle.std.proofs.Common.{◌≡◌, ℕ, ◌<◌, ◌≤◌, length, take, get_or}
use Rattle.spread_report_outbound.specs.Sessions.{bytes_of}
use Rattle.spread_report_outbound.proofs.taking_back.cut_back.Given as goal

abbrev pub invariant-loop-s : goal.invariant-loop-s
invariant-loop-s g l = record {
  size : length l.lists ≡ 16;
  cut : (t : ℕ) → t < l.s → bytes_of l.lists t ≡ take (get_or l.lengths t 0) (bytes_of l.initial.lists t);
  rest : (t : ℕ) → l.s ≤ t → bytes_of l.lists t ≡ bytes_of l.initial.lists t;
}
