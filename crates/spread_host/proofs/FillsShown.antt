-- Fills in range can be shown in a day's text.
use Rattle.std.proofs.Common.{List, All, get_or}
use Rattle.spread_rules.specs.declared.fill.Fill.{Fill}
use Rattle.spread_rules_rulebook.specs.Rulebook.{Rules}
use Rattle.spread_rules.specs.Ranges.{IsFillInRange}
use Rattle.text_fills.specs.Totals.{IsSummable}
use Rattle.text_day.specs.DayText.{AreShown}

summable_of : (rules : Rules) (f : Fill) → IsFillInRange rules f → IsSummable f
summable_of rules f r = (r.quantity, r.price, r.near, r.far)

pub shown_of : (rules : Rules) (fills : List Fill) → All (IsFillInRange rules) fills → AreShown rules fills
shown_of rules fills fits = record {
  listed = λ k d h. (fits k d h).listed;
  summable = λ k d h. summable_of rules (get_or fills k d) (fits k d h);
}
