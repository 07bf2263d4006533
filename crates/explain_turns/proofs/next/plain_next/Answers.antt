use Rattle.std.proofs.Common.{Option, subst, sym, ap, ◌∙◌}
use Rattle.spread_rules.specs.declared.candidate.Candidate.{Candidate}
use Rattle.spread_rules.specs.code.Candidates.{counterparties}
use Rattle.spread_rules_rulebook.specs.Rulebook.{implied}
use Rattle.explain_turns.specs.Explained.{IsNextBest}
use Rattle.explain_turns.specs.code.Search.{next_candidate_of}
use Rattle.explain_turns.proofs.ranks.NextIsLeast.{fold_is_next, without_bound}
use Rattle.explain_turns.proofs.next.plain_next.Goals as goal

pub returns : goal.returns
returns c =
    let on = implied c.args.rules.now in
    let n = c.args.new.now in
    let xs = c.args.orders.now in
    record {
      next = subst (IsNextBest on n xs c.args.bound.now) (sym c.least_behind.ensures.value)
          (fold_is_next on n xs c.args.bound.now);
      least = λ none. c.least_behind.ensures.value ∙ ap (λ (b : Option Candidate). next_candidate_of on n b
          (counterparties xs)) none ∙ without_bound on n (counterparties xs);
      leg_price = c.least_behind.ensures.leg_price;
    }
