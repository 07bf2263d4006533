use Rattle.spread_match.proofs.first_meaning.SameMeanings.{same_meanings}
use Rattle.spread_match.proofs.laws.without_replace.Goals as goal

pub returns : goal.returns
returns c = record { same = same_meanings }
