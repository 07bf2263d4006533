use Rattle.std.proofs.Common.{◌≡◌, ℕ, ◌<◌, length, get_or, Some, None}
use Rattle.fix_wire.specs.declared.parties.SpelledParties.{SpelledParties}
use Rattle.fix_wire.specs.Layout.{SpellsParties}
use Rattle.spread_report_outbound.specs.declared.session.CompIds.{CompIds}
use Rattle.spread_report_outbound.proofs.parties.spell_parties.Given as goal

abbrev pub invariant-loop-s : goal.invariant-loop-s
invariant-loop-s l = record {
  size : length l.parties ≡ 16;
  done : (t : ℕ) → t < l.s → (ids : CompIds) → get_or l.comp_ids t None ≡ Some ids → (p : SpelledParties)
      → SpellsParties (get_or l.parties t p) ids.host ids.client l.stamp;
}
