use Rattle.std.proofs.Common.{◌≡◌, ◌<◌, ℕ, true}
use Rattle.gate_link.specs.Links.{closed_at}
use Rattle.gate_link.proofs.look.first_open.Given as goal

abbrev pub invariant-loop-s : goal.invariant-loop-s
invariant-loop-s g l = (r : ℕ) → r < l.s → closed_at l.gateways r ≡ true
