use Rattle.std.proofs.Common.{◌≡◌, ◌<◌, ◌-◌, ◌++◌, ℕ, [], length}
use Rattle.spread_report_outbound.specs.code.Sessions.{session_text}
use Rattle.live_matching.specs.code.Posting.{posted_at, NoneEnded, SamePosters}
use Rattle.live_matching.proofs.posting.post_each.Given as goal

abbrev pub invariant-loop-s : goal.invariant-loop-s
invariant-loop-s g l = record {
  same : SamePosters l.initial.posters l.posters;
  open_ : NoneEnded l.posters;
  applied : l.reported.applied ≡ l.initial.reported.applied;
  desk : l.reported.desk ≡ l.initial.reported.desk;
  count : length l.reported.texts ≡ length l.initial.reported.texts;
  done : (s : ℕ) → s < l.s → session_text l.reported.texts s ≡ [];
  moved : (s : ℕ) → posted_at l.posters s ++ session_text l.reported.texts s ≡ posted_at l.initial.posters s
      ++ session_text l.initial.reported.texts s;
}

abbrev pub decreases-loop-s : goal.decreases-loop-s
decreases-loop-s g l = length l.posters - l.s
