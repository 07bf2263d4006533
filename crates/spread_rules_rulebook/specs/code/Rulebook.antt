-- Words of the code alone, beside `Rulebook`: no promise of a whole day needs them to be read.
use Rattle.std.specs.Prelude.{◌≡◌, ℕ, ◌<◌, ◌≤◌, ◌+◌, ◌*◌, ◌≤ℤ◌, Bool, ◌&&◌, ◌||◌, List, [], ◌∷◌, ◌++◌, map, get_or, Option, None}
use Rattle.std.specs.List.{range_with_len}
use Rattle.spread_rules_ids.specs.declared.limits.TheConstants.{MAX_MONTHS}
use Rattle.spread_rules_rulebook.specs.declared.instrument.Instrument.{Instrument}
use Rattle.spread_rules_rulebook.specs.declared.instrument.Instrument.TheVariants.{Spread}

-- which switch is that of a pair, the near month first
abbrev pub switch_number : ℕ → ℕ → ℕ
switch_number near far = near * MAX_MONTHS + far

-- how a pair was switched, none where it was not
abbrev pub switch_of : List (Option Bool) → ℕ → ℕ → Option Bool
switch_of switches near far = get_or switches (switch_number near far) None

-- the spreads with this far month: one for each nearer month
abbrev pub spreads_to : ℕ → List Instrument
spreads_to far = map (λ near. Spread near far) (range_with_len 0 far)
