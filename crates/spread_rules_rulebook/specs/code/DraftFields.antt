-- How the months are kept while a rulebook's text is read.
-- Words of the code alone.
use Rattle.std.specs.Prelude.{◌≡◌, ℕ, ◌*◌, ◌<◌, ◌≤◌, ℤ, length, take, get_or, map, [], List, All, Some, None}
use Rattle.spread_rules_ids.specs.declared.limits.TheConstants as limits
use Rattle.spread_rules_rulebook.specs.Rulebook.{IsMonth, IsTick}
use Rattle.spread_rules_rulebook.specs.RulebookText.{SoFar}
use Rattle.spread_rules_rulebook.specs.declared.rulebook_text.Draft.{Draft}

abbrev pub so_far : Draft → SoFar
so_far d = record {
  tick = d.tick;
  months = take d.list.count d.list.slots;
  switches = d.switches.rows;
}

abbrev pub HasDistinctNames : List (List ℕ) → Type 0
HasDistinctNames names =
    (i j : ℕ) → i < length names → j < length names → get_or names i [] ≡ get_or names j [] → i ≡ j

-- a slot for each month that a rulebook may have, of which the first ones are months that fit the tick
pub record IsDraft (d : Draft) : Type 0 where
  pub slots : length d.list.slots ≡ limits.MAX_MONTHS
  pub switches : length d.switches.rows ≡ limits.MAX_MONTHS * limits.MAX_MONTHS
  pub within : d.list.count ≤ limits.MAX_MONTHS
  pub tick : (t : ℤ) → d.tick ≡ Some t → IsTick t × All (IsMonth t) (take d.list.count d.list.slots)
  pub empty : d.tick ≡ None → d.list.count ≡ 0
  pub names : HasDistinctNames (map (λ m. m.name) (take d.list.count d.list.slots))
