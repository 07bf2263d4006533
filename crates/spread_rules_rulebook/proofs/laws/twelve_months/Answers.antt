use Rattle.spread_rules_rulebook.proofs.rulebook_texts.TwelveMonths.{kept, read, all_are_on}
use Rattle.spread_rules_rulebook.proofs.laws.twelve_months.Goals as goal

pub returns : goal.returns
returns c = record { kept = kept; read = read; on = all_are_on }
