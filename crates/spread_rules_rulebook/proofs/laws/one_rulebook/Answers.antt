use Rattle.spread_rules_rulebook.proofs.rulebook_texts.OneRulebook.{rulebook_once}
use Rattle.spread_rules_rulebook.proofs.laws.one_rulebook.Goals as goal

pub returns : goal.returns
returns c = record { once = λ text a b x y. rulebook_once x y }
