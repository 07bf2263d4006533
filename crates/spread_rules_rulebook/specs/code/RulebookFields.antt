-- How a rulebook is kept, and what holds of each.
-- Words of the code alone.
use Rattle.std.specs.Prelude.{◌≡◌, ◌≤◌, length, take}
use Rattle.spread_rules_ids.specs.declared.limits.TheConstants as limits
use Rattle.spread_rules_rulebook.specs.declared.rulebook.Rulebook.TheInside.{Inside}
use Rattle.spread_rules_rulebook.specs.Rulebook.{Rules, IsRules}

abbrev pub rules_of : Inside → Rules
rules_of r = record {
  tick = r.tick;
  months = take r.list.count r.list.slots;
  switches = r.switches.rows;
}

-- a slot for each month that a rulebook may have, of which the first ones are months
pub record IsRulebook (r : Inside) : Type 0 where
  pub slots : length r.list.slots ≡ limits.MAX_MONTHS
  pub within : r.list.count ≤ limits.MAX_MONTHS
  pub rules : IsRules (rules_of r)
