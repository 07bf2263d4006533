-- in a list whose places differ, the least eligible candidate is one
use Rattle.std.proofs.Common.{◌≡◌, ℕ, ℤ, Bool, true, false, List, Option, Some, None, MatchOption, refl, sym, ap, ◌∙◌, arith, Less, Equal, Greater}
use Rattle.std.proofs.lemmas.Int.{ints}
use Rattle.std.specs.Ordering.{nat_cmp, int_cmp, bool_cmp, ordering_then, ordering_reverse, is_lt}
use Rattle.std.specs.declared.cmp.Ordering.{Ordering}
use Rattle.std.proofs.lemmas.Cmp.{ranked, int_ranked}
use Rattle.spread_rules.specs.declared.order.Side.{Side}
use Rattle.spread_rules.specs.declared.order.Side.TheVariants.{Buy, Sell}
use Rattle.spread_rules.specs.declared.order.Order.{Order}
use Rattle.spread_rules.specs.declared.candidate.Candidate.{Candidate}
use Rattle.spread_rules.specs.declared.candidate.Counterparty.{Counterparty}
use Rattle.spread_rules.specs.declared.candidate.Counterparty.TheVariants.{Direct, Implied}
use Rattle.spread_rules.specs.declared.candidate.Rank.{Rank}
use Rattle.spread_rules.specs.Candidates.{IsBest, IsEligible, IsLeast, PlacesDiffer, AllStandIn, rank_cmp, rank_of, rank_at, cost}
use Rattle.spread_rules.specs.code.Candidates.{least_candidate, counterparties}
use Rattle.spread_rules.proofs.ranks.PlainIsLeast.{rank_total, first_is_least}
use Rattle.spread_rules.specs.Candidates.{Pairs}

module _ (on : Pairs) where
  -- neither before the other: alike
  alike : (o q : Ordering) → is_lt o ≡ false → is_lt q ≡ false → o ≡ ordering_reverse q → o ≡ Equal
  alike Less q h k e = cc
  alike Equal q h k e = refl
  alike Greater Less h k e = cc
  alike Greater Equal h k e = cc
  alike Greater Greater h k e = cc

  then_first : (o q : Ordering) → ordering_then o q ≡ Equal → o ≡ Equal
  then_first Less q h = cc
  then_first Equal q h = refl
  then_first Greater q h = cc

  then_second : (o q : Ordering) → ordering_then o q ≡ Equal → q ≡ Equal
  then_second Less q h = cc
  then_second Equal q h = h
  then_second Greater q h = cc

  int_same : (x y : ℤ) → int_cmp x y ≡ Equal → x ≡ y
  int_same x y h = int_ranked x y Equal (sym h)

  nat_same : (x y : ℕ) → nat_cmp x y ≡ Equal → x ≡ y
  nat_same x y h = ranked x y Equal (sym h)

  bool_same : (a b : Bool) → bool_cmp a b ≡ Equal → a ≡ b
  bool_same true true h = refl
  bool_same false false h = refl
  bool_same true false h = cc
  bool_same false true h = cc

  -- what alike ranks share
  pub record SameRank (r s : Rank) : Type 0 where
    pub cost : r.cost ≡ s.cost
    pub implied : r.implied ≡ s.implied
    pub first : r.first ≡ s.first
    pub second : r.second ≡ s.second

  same_rank : (r s : Rank) → rank_cmp r s ≡ Equal → SameRank r s
  same_rank r s h =
      let a = then_second (int_cmp r.cost s.cost) _ h in
      let b = then_second (bool_cmp r.implied s.implied) _ a in
      let c = then_second (nat_cmp r.month s.month) _ b in
      record {
        cost = int_same r.cost s.cost (then_first (int_cmp r.cost s.cost) _ h);
        implied = bool_same r.implied s.implied (then_first (bool_cmp r.implied s.implied) _ a);
        first = nat_same r.first s.first (then_first (nat_cmp r.first s.first) _ c);
        second = nat_same r.second s.second (then_second (nat_cmp r.first s.first) _ c);
      }

  cost_same : (side : Side) (p q : ℤ) → cost side p ≡ cost side q → p ≡ q
  cost_same Buy p q h = h
  cost_same Sell p q h = omega (arith, ints)

  same_counterparty : (xs : List Order) (side : Side) (x y : ℤ) (p q : Counterparty) → PlacesDiffer xs → AllStandIn xs p
      → AllStandIn xs q → SameRank (rank_at (cost side x) p) (rank_at (cost side y) q) → (x ≡ y) × (p ≡ q)
  same_counterparty xs side x y (Direct a) (Direct b) d ca cb r =
      (cost_same side x y r.cost, ap (λ (o : Order). Direct o) (d a b ca cb r.first))
  same_counterparty xs side x y (Direct a) (Implied b c) d ca cb r = let no : false ≡ true = r.implied in cc
  same_counterparty xs side x y (Implied a b) (Direct c) d ca cb r = let no : true ≡ false = r.implied in cc
  same_counterparty xs side x y (Implied a b) (Implied c e) d ca cb r =
      let f = d a c ca.0 cb.0 r.first in
      let g = d b e ca.1 cb.1 r.second in
      (cost_same side x y r.cost, ap (λ (o : Order). Implied o b) f ∙ ap (λ (o : Order). Implied c o) g)

  -- no two eligible candidates share a rank
  pub one_of_a_rank : (n : Order) (xs : List Order) (p q : Candidate) → PlacesDiffer xs → IsEligible on n xs p
      → IsEligible on n xs q → rank_of n p ≡ rank_of n q → p ≡ q
  one_of_a_rank n xs p q d a b e =
      let r : SameRank (rank_of n p) (rank_of n q) = record {
        cost = ap (λ (r : Rank). r.cost) e;
        implied = ap (λ (r : Rank). r.implied) e;
        first = ap (λ (r : Rank). r.first) e;
        second = ap (λ (r : Rank). r.second) e;
      } in
      let s = same_counterparty xs n.side p.price q.price p.counterparty q.counterparty d a.stands b.stands r in
      ap (λ (x : ℤ). record { price = x; counterparty = p.counterparty }) s.0
      ∙ ap (λ (x : Counterparty). record { price = q.price; counterparty = x }) s.1

  pub one_least : (n : Order) (xs : List Order) (o q : Candidate) → PlacesDiffer xs → IsLeast on n xs o
      → IsLeast on n xs q → o ≡ q
  one_least n xs o q d l k =
      let e = alike (rank_cmp (rank_of n o) (rank_of n q)) (rank_cmp (rank_of n q) (rank_of n o)) (k.least o l.eligible)
      (l.least q k.eligible) ((rank_total on).antisymm (rank_of n o) (rank_of n q)) in
      let s = same_counterparty xs n.side o.price q.price o.counterparty q.counterparty d l.eligible.stands
      k.eligible.stands (same_rank (rank_of n o) (rank_of n q) e) in
      ap (λ (p : ℤ). record { price = p; counterparty = o.counterparty }) s.0
      ∙ ap (λ (p : Counterparty). record { price = q.price; counterparty = p }) s.1

  best_same : (n : Order) (xs : List Order) (r s : Option Candidate) → PlacesDiffer xs → IsBest on n xs r
      → IsBest on n xs s → r ≡ s
  best_same n xs None None d h k = refl
  best_same n xs None (Some q) d h k = absurd (h q k.eligible)
  best_same n xs (Some o) None d h k = absurd (k o h.eligible)
  best_same n xs (Some o) (Some q) d h k = ap (λ (x : Candidate). Some x) (one_least n xs o q d h k)

  -- whoever finds the least finds what the definition says
  pub best_is_first : (n : Order) (xs : List Order) (r : Option Candidate) → PlacesDiffer xs
      → MatchOption r ((q : Candidate) → IsEligible on n xs q → ⊥) (IsLeast on n xs)
      → r ≡ least_candidate on n (counterparties xs)
  best_is_first n xs r d h = best_same n xs r (least_candidate on n (counterparties xs)) d h (first_is_least on n xs)
