use Rattle.std.proofs.Common.{◌∙◌, Option, subst, sym}
use Rattle.spread_rules.specs.declared.candidate.Candidate.{Candidate}
use Rattle.spread_rules.specs.Candidates.{IsBest}
use Rattle.spread_rules.proofs.ranks.BestIsLeast.{best_is}
use Rattle.spread_rules.proofs.ranks.PlainIsLeast.{first_is_least}
use Rattle.spread_rules.proofs.ranks.LeastIsOne.{one_of_a_rank, best_is_first}
use Rattle.spread_rules.proofs.laws.least_in_rank.Goals as goal

pub returns : goal.returns
returns c = record {
  least = λ on n xs. subst (λ (best : Option Candidate). IsBest on n xs best) (sym (best_is on n xs))
      (first_is_least on n xs);
  one_of_a_rank = one_of_a_rank;
  one_least = λ on n xs best d h. best_is_first on n xs best d h ∙ sym (best_is on n xs);
}
