use Rattle.std.proofs.Common.{rules}
use Rattle.std.proofs.lemmas.Fn.{filter_same}
use Rattle.explain_turns.proofs.one_turn.remove_all.Goals as goal

pub returns : goal.returns
returns g c = filter_same _ _ _ (λ x b f' k. search rules) _ _ c.retain.ensures.filtered
