use Rattle.std.proofs.Common.{◌≡◌, ◌<◌, ◌≤◌, ℕ, get_or}
use Rattle.gate_link_sessions.specs.Inboxes.{LookedAt}
use Rattle.gate_link_sessions.specs.declared.inbox.Inbox.{Inbox}
use Rattle.gate_link_sessions.specs.declared.gateway.Gateway.{Gateway}
use Rattle.gate_link_sessions.proofs.look.look_all.Given as goal

abbrev pub invariant-loop-s : goal.invariant-loop-s
invariant-loop-s g l = record {
  done : (s : ℕ) (d : Inbox _) (g : Gateway _) → s < l.s
      → LookedAt (get_or l.initial.inboxes s d) (get_or l.initial.gateways s g) (get_or l.inboxes s d)
      (get_or l.gateways s g);
  inboxes_left : (s : ℕ) (d : Inbox _) → l.s ≤ s → get_or l.inboxes s d ≡ get_or l.initial.inboxes s d;
  gateways_left : (s : ℕ) (g : Gateway _) → l.s ≤ s → get_or l.gateways s g ≡ get_or l.initial.gateways s g;
}
