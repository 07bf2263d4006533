use Rattle.std.proofs.Common.{◌≡◌, ◌≤◌, ◌<◌, ◌-◌, ℕ, []}
use Rattle.spread_report_outbound.specs.code.Sessions.{session_text}
use Rattle.apply_desk.proofs.report.ReportedEntries.next_sent.Given as goal

abbrev pub invariant-loop-session : goal.invariant-loop-session
invariant-loop-session g l = record {
  least : l.from ≤ l.session;
  most : l.session ≤ l.bound;
  skipped : (s : ℕ) → l.from ≤ s → s < l.session → session_text l.self.texts s ≡ [];
}

abbrev pub decreases-loop-session : goal.decreases-loop-session
decreases-loop-session g l = l.bound - l.session
