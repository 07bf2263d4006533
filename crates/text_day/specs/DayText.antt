-- What the text of a day shows: its journal, its fills, what each session is sent, and the months.
use Rattle.std.specs.Prelude.{List, ◌++◌, All}
use Rattle.spread_rules.specs.declared.fill.Fill.{Fill}
use Rattle.spread_rules_rulebook.specs.Rulebook.{Rules, IsListed}
use Rattle.text_fills.specs.Totals.{IsSummable}

-- fills that a day's text can show: of listed instruments, in the ranges of its sums
pub record AreShown (rules : Rules) (fills : List Fill) : Type 0 where
  pub listed : All (λ f. IsListed rules f.instrument) fills
  pub summable : All IsSummable fills
