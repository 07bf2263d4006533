use Rattle.spread_rules_ids.proofs.IdKeyOnce.{one_key}
use Rattle.spread_rules_ids.proofs.laws.one_key.Goals as goal

pub returns : goal.returns
returns c = record { once = λ s t a b x y e. one_key s t a b x y e }
