-- the next in rank, where there is no bound, is the least of all
use Rattle.std.proofs.Common.{List, Option, Some, None, refl}
use Rattle.spread_rules.specs.declared.order.Order.{Order}
use Rattle.spread_rules.specs.declared.candidate.Candidate.{Candidate}
use Rattle.spread_rules.specs.Candidates.{Pairs, IsBest}
use Rattle.explain_turns.specs.Explained.{IsNextBest}

module _ (on : Pairs) where
  pub least_of_all : (n : Order) (xs : List Order) (r : Option Candidate) → IsNextBest on n xs None r → IsBest on n xs r
  least_of_all n xs None h = λ q e. h q e refl
  least_of_all n xs (Some o) h = record { eligible = h.eligible; least = λ q e. h.least q e refl }
