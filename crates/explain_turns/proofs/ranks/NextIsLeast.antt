-- the fold over all counterparties gives the next in rank behind the bound
use Rattle.std.proofs.Common.{◌≡◌, Bool, true, false, cond, List, [], ◌∷◌, fold, Option, Some, None, refl, sym, ap, subst, ◌∙◌}
use Rattle.spread_rules.specs.declared.order.Order.{Order}
use Rattle.spread_rules.specs.declared.candidate.Candidate.{Candidate}
use Rattle.spread_rules.specs.declared.candidate.Counterparty.{Counterparty}
use Rattle.spread_rules.specs.code.Cases.{step, better_of}
use Rattle.spread_rules.specs.Candidates.{Pairs, AllStandIn, is_before, price_of}
use Rattle.spread_rules.specs.code.Candidates.{candidate_of, counterparties, least_candidate}
use Rattle.spread_rules.proofs.ranks.FirstOfAFold.{IsFirst, fold_first}
use Rattle.spread_rules.proofs.ranks.PlainIsLeast.{ranks, candidate_is, eligible_candidate, listed, of_list, IsOwn}
use Rattle.explain_turns.specs.Explained.{is_behind, IsNextBest}
use Rattle.explain_turns.specs.code.Search.{only_behind, next_of, next_step, next_candidate_of}

module _ (on : Pairs) where
  -- what ranks behind the bound is the candidate
  kept_when : (n : Order) (bound : Option Candidate) (o q : Candidate) (b : Bool) → is_behind n bound o ≡ b
      → cond b (Some o) None ≡ Some q → (o ≡ q) × (is_behind n bound q ≡ true)
  kept_when n bound o q true h e = let same : o ≡ q = cc in
      (same, subst (λ (x : Candidate). is_behind n bound x ≡ true) same h)
  kept_when n bound o q false h e = cc

  kept_is : (n : Order) (bound : Option Candidate) (r : Option Candidate) (q : Candidate)
      → only_behind n bound r ≡ Some q → (r ≡ Some q) × (is_behind n bound q ≡ true)
  kept_is n bound None q e = cc
  kept_is n bound (Some o) q e = let k = kept_when n bound o q (is_behind n bound o) refl e in
      (ap (λ (x : Candidate). Some x) k.0, k.1)

  kept : (n : Order) (bound : Option Candidate) (r : Option Candidate) (q : Candidate) → r ≡ Some q
      → is_behind n bound q ≡ true → only_behind n bound r ≡ Some q
  kept n bound r q e h = rw e (rw h refl)

  first_is : (n : Order) (xs : List Order) (bound r : Option Candidate)
      → IsFirst (is_before n) (ranks on n) (next_of on n bound) (counterparties xs) r → IsNextBest on n xs bound r
  first_is n xs bound None h = λ q e b.
      let none : next_of on n bound q.counterparty ≡ None = h q.counterparty (listed on xs q.counterparty e.stands) in
      let some : next_of on n bound q.counterparty ≡ Some q =
      kept n bound (candidate_of on n q.counterparty) q (eligible_candidate on n xs q e) b in
      cc
  first_is n xs bound (Some o) h =
      let k = kept_is n bound (candidate_of on n h.0.0) o h.0.2 in
      let own : IsOwn on n h.0.0 o = candidate_is on n h.0.0 o k.0 in
      record {
        eligible = record {
          stands = subst (AllStandIn xs) (sym own.own) (of_list on xs h.0.0 h.0.1);
          meets = subst (λ (p : Counterparty). price_of on n p ≡ Some o.price) (sym own.own) own.meets;
          within = own.within;
        };
        behind = k.1;
        least = λ q e b. h.1 q.counterparty q (listed on xs q.counterparty e.stands)
            (kept n bound (candidate_of on n q.counterparty) q (eligible_candidate on n xs q e) b);
      }

  -- the fold gives the next behind the bound, and none only where there is none
  pub fold_is_next : (n : Order) (xs : List Order) (bound : Option Candidate)
      → IsNextBest on n xs bound (next_candidate_of on n bound (counterparties xs))
  fold_is_next n xs bound = first_is n xs bound (next_candidate_of on n bound (counterparties xs))
      (fold_first (is_before n) (ranks on n) (next_of on n bound) (counterparties xs))

  any : (n : Order) (r : Option Candidate) → only_behind n None r ≡ r
  any n None = refl
  any n (Some o) = refl

  same_from : (n : Order) (best : Option Candidate) (ps : List Counterparty)
      → fold (next_step on n None) best ps ≡ fold (step on n) best ps
  same_from n best [] = refl
  same_from n best (p ∷ ps) =
      ap (λ (r : Option Candidate). fold (next_step on n None) (better_of n best r) ps) (any n (candidate_of on n p))
      ∙ same_from n (step on n best p) ps

  -- without a bound it gives the least of all
  pub without_bound : (n : Order) (ps : List Counterparty) → next_candidate_of on n None ps ≡ least_candidate on n ps
  without_bound n ps = same_from n None ps
