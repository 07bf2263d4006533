use Rattle.std.proofs.Common.{◌≡◌, ◌≤◌, ℕ, [], vec_len, vec_capacity}
use Rattle.gate_link_sessions.specs.Rows.{row}
use Rattle.gate_link_sessions.specs.Inboxes.{taken, ArePairs}
use Rattle.gate_link_sessions.specs.Fresh.{AreFresh}
use Rattle.gate_link_sessions.proofs.open.rings.Given as goal

abbrev pub invariant-loop-s : goal.invariant-loop-s
invariant-loop-s g l = record {
  gateways : (vec_len l.gateways ≡ l.s) × (l.sessions ≤ vec_capacity l.gateways);
  inboxes : (vec_len l.inboxes ≡ l.s) × (l.sessions ≤ vec_capacity l.inboxes);
  pairs : ArePairs l.inboxes.items l.gateways.items;
  fresh : AreFresh l.ring l.gateways.items;
  idle : (s : ℕ) → row taken l.inboxes.items s ≡ [];
}
