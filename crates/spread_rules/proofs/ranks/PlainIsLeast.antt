-- the fold over all counterparties gives the least eligible candidate
use Rattle.std.proofs.Common.{◌≡◌, List, inl, inr, refl, ap, subst, sym, ◌∙◌, map, Contains, Option, Some, None, Bool, true, false, cond, ℤ, MatchOption}
use Rattle.std.specs.List.{flat_map}
use Rattle.std.specs.Cmp.{IsTotalOrder, IsStrictWeakOrder, bool_cmp_total}
use Rattle.std.proofs.lemmas.Cmp.{then_total, on_total, int_cmp_total, nat_cmp_total}
use Rattle.std.proofs.lemmas.List.MinMax.{ranks_by}
use Rattle.std.proofs.lemmas.List.Elements.{Contains-append_left, Contains-append_right, Contains-append_cases}
use Rattle.spread_rules.specs.declared.order.Order.{Order}
use Rattle.spread_rules.specs.declared.candidate.Candidate.{Candidate}
use Rattle.spread_rules.specs.declared.candidate.Rank.{Rank}
use Rattle.spread_rules.specs.declared.candidate.Counterparty.{Counterparty}
use Rattle.spread_rules.specs.declared.candidate.Counterparty.TheVariants.{Direct, Implied}
use Rattle.spread_rules.specs.Candidates.{price_of, is_within_limit, is_before, rank_of, rank_cmp, IsEligible, IsLeast, AllStandIn}
use Rattle.spread_rules.specs.code.Candidates.{least_candidate, candidate_of, candidate_at, counterparties}
use Rattle.spread_rules_rulebook.proofs.lists.Membership.{in_map, from_map, in_flat_map, from_flat_map}
use Rattle.spread_rules.proofs.ranks.FirstOfAFold.{IsFirst, fold_first}
use Rattle.spread_rules.specs.Candidates.{Pairs}

module _ (on : Pairs) where
  pub rank_total : IsTotalOrder rank_cmp
  rank_total =
      then_total (on_total (λ (r : Rank). r.cost) int_cmp_total)
      (then_total (on_total (λ (r : Rank). r.implied) bool_cmp_total)
      (then_total (on_total (λ (r : Rank). r.month) nat_cmp_total)
      (then_total (on_total (λ (r : Rank). r.first) nat_cmp_total)
      (on_total (λ (r : Rank). r.second) nat_cmp_total))))

  pub ranks : (n : Order) → IsStrictWeakOrder (is_before n)
  ranks n = ranks_by rank_total (rank_of n)

  -- what is candidateed is its counterparty's, at the candidate's price, within the limit
  pub record IsOwn (n : Order) (p : Counterparty) (q : Candidate) : Type 0 where
    pub own : q.counterparty ≡ p
    pub meets : price_of on n p ≡ Some q.price
    pub within : is_within_limit n.side n.price q.price ≡ true

  candidate_when : (n : Order) (p : Counterparty) (q : Candidate) (price : ℤ) (b : Bool)
      → is_within_limit n.side n.price price ≡ b → price_of on n p ≡ Some price
      → cond b (Some (record { price = price; counterparty = p })) None ≡ Some q → IsOwn n p q
  candidate_when n p q price true b h e =
      let same : record { price = price; counterparty = p } ≡ q = cc in
      record {
        own = sym (ap (λ (o : Candidate). o.counterparty) same);
        meets = h
            ∙ ap (λ (o : Candidate). Some o.price) same;
        within =
            subst (λ (o : Candidate). is_within_limit n.side n.price o.price ≡ true) same b;
      }
  candidate_when n p q price false b h e = cc

  candidate_cases : (n : Order) (p : Counterparty) (q : Candidate) (r : Option ℤ) → price_of on n p ≡ r
      → candidate_at n p r ≡ Some q → IsOwn n p q
  candidate_cases n p q None h e = cc
  candidate_cases n p q (Some price) h e = candidate_when n p q price (is_within_limit n.side n.price price) refl h e

  pub candidate_is : (n : Order) (p : Counterparty) (q : Candidate) → candidate_of on n p ≡ Some q → IsOwn n p q
  candidate_is n p q e = candidate_cases n p q (price_of on n p) refl e

  -- an eligible candidate is what its counterparty candidates
  pub eligible_candidate : (n : Order) (xs : List Order) (q : Candidate) → IsEligible on n xs q
      → candidate_of on n q.counterparty ≡ Some q
  eligible_candidate n xs q h = rw h.meets (rw h.within refl)

  -- ---- the list of counterparties has all of the list's

  pub listed : (xs : List Order) (p : Counterparty) → AllStandIn xs p → Contains (counterparties xs) p
  listed xs (Direct o) c = Contains-append_left (map Direct xs) (flat_map (λ a. map (Implied a) xs) xs) (Direct o)
      (in_map (λ (x : Order). Direct x) xs o c)
  listed xs (Implied a b) c = Contains-append_right (map Direct xs) (flat_map (λ a. map (Implied a) xs) xs)
      (Implied a b) (in_flat_map (λ (x : Order). map (Implied x) xs) xs a (Implied a b) c.0
      (in_map (λ (x : Order). Implied a x) xs b c.1))

  pub of_list : (xs : List Order) (p : Counterparty) → Contains (counterparties xs) p → AllStandIn xs p
  of_list xs p c =
      elim (Contains-append_cases (map Direct xs) (flat_map (λ a. map (Implied a) xs) xs) p c) [
        | inl d ↦ let r = from_map (λ (x : Order). Direct x) xs p d in subst (AllStandIn xs) r.2 r.1
        | inr d ↦
            let r = from_flat_map (λ (x : Order). map (Implied x) xs) xs p d in
            let s = from_map (λ (x : Order). Implied r.0 x) xs p r.2 in
            subst (AllStandIn xs) s.2 (r.1, s.1)
      ]

  -- ---- the theorem

  first_is : (n : Order) (xs : List Order) (r : Option Candidate)
      → IsFirst (is_before n) (ranks n) (candidate_of on n) (counterparties xs) r
      → MatchOption r ((q : Candidate) → IsEligible on n xs q → ⊥) (IsLeast on n xs)
  first_is n xs None h = λ q e. let none : candidate_of on n q.counterparty ≡ None =
      h q.counterparty (listed xs q.counterparty e.stands) in let some : candidate_of on n q.counterparty ≡ Some q =
      eligible_candidate n xs q e in cc
  first_is n xs (Some o) h =
      let own : IsOwn n h.0.0 o = candidate_is n h.0.0 o h.0.2 in
      record {
        eligible = record {
          stands = subst (AllStandIn xs) (sym own.own) (of_list xs h.0.0 h.0.1);
          meets = subst (λ (p : Counterparty). price_of on n p ≡ Some o.price) (sym own.own) own.meets;
          within = own.within;
        };
        least = λ q e. h.1 q.counterparty q (listed xs q.counterparty e.stands) (eligible_candidate n xs q e);
      }

  -- the fold gives the least eligible candidate, and none only where there is none
  pub first_is_least : (n : Order) (xs : List Order)
      → MatchOption (least_candidate on n (counterparties xs)) ((q : Candidate) → IsEligible on n xs q → ⊥)
      (IsLeast on n xs)
  first_is_least n xs = first_is n xs (least_candidate on n (counterparties xs))
      (fold_first (is_before n) (ranks n) (candidate_of on n) (counterparties xs))
