use Rattle.std.proofs.Common.{◌≡◌, drop}
use Rattle.std.specs.List.{find}
use Rattle.spread_rules.specs.Meaning.{is_own}
use Rattle.explain_entries.proofs.orders_before.find_own.Given as goal

abbrev pub invariant-loop-order : goal.invariant-loop-order
invariant-loop-order l = find (is_own l.session l.id) (drop l.order-index l.orders) ≡ find (is_own l.session l.id)
    l.orders
