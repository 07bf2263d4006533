-- The direct candidate of a front; where it costs no more than the cheapest pair, it beats every pair.
use Rattle.std.proofs.Common.{◌≡◌, ℕ, ℤ, ◌≤ℤ◌, Bool, true, false, ◌&&◌, cond, List, All, Option, Some, None, IfSome, refl, subst, sym, ap, ◌∙◌, arith, to_z, of_z, w64}
use Rattle.std.proofs.lemmas.Int.{ints}
use Rattle.std.proofs.lemmas.List.Elements.{All-contains}
use Rattle.std.specs.Prelude.{int_lt}
use Rattle.std.specs.Ordering.{int_cmp, is_lt}
use Rattle.spread_rules_rulebook.specs.declared.instrument.Instrument.TheVariants.{Outright}
use Rattle.spread_rules.specs.declared.order.Order.{Order}
use Rattle.spread_rules.specs.declared.candidate.Candidate.{Candidate}
use Rattle.spread_rules.specs.declared.candidate.Counterparty.{Counterparty}
use Rattle.spread_rules.specs.declared.candidate.Counterparty.TheVariants.{Direct, Implied}
use Rattle.spread_rules.specs.code.Cases.{price_if}
use Rattle.spread_rules.specs.Candidates.{Pairs, cost, price_of, same_instrument, is_within_limit, rank_at, rank_cmp}
use Rattle.spread_rules.specs.code.Candidates.{all_on, are_opposite, candidate_at, candidate_of, HasOrderPrice, HasLegPrice}
use Rattle.spread_rules.specs.Legs.{other_side}
use Rattle.spread_rules.specs.declared.order.Side.{Side}
use Rattle.spread_rules.specs.declared.order.Side.TheVariants.{Buy, Sell}
use Rattle.spread_rules_rulebook.specs.declared.instrument.Instrument.{Instrument}
use Rattle.spread_books_plain.proofs.fronts.FoldGivesFront.{same_instrument_itself}
use Rattle.spread_rules_rulebook.specs.Instruments.{month_of}
use Rattle.spread_rules_rulebook.specs.Prices.{IsLegPrice}
use Rattle.spread_books_search.specs.Listed.{IsNearFirst}
use Rattle.spread_books_search.specs.code.Best.{IsDirect, IsFair, IsBestDirect, is_better, CoversBelow, CoversOne}
use Rattle.spread_books_plain.specs.declared.pair.PairCost.{PairCost}
use Rattle.spread_books_plain.specs.Pairs.{IsCheapest}
use Rattle.spread_books_plain.specs.Queues.{IsFront}
use Rattle.spread_books_search.proofs.fronts.BeatAnyPair.{front_beats, candidate_fair}
use Rattle.spread_books_search.proofs.fronts.PairCost.{after_cost}
use Rattle.spread_books_search.proofs.fronts.MonthPairs.{cost_twice, eligible_pair, leg_is, price_costs, too_dear}

opposite_sides : (s : Side) → are_opposite s (other_side s) ≡ true
opposite_sides Buy = refl
opposite_sides Sell = refl

-- an order that stands opposite makes a candidate where its price is within the limit
pub direct_within : (n o : Order) → o.instrument ≡ n.instrument → o.side ≡ other_side n.side
    → candidate_of all_on n (Direct o) ≡ cond (is_within_limit n.side n.price o.price)
    (Some (record { price = o.price; counterparty = Direct o })) None
direct_within n o same opposite =
    let meets : price_of all_on n (Direct o) ≡ Some o.price =
    ap (λ (i : Instrument). price_if (same_instrument n.instrument i && are_opposite n.side o.side) o.price) same
    ∙ ap (λ (s : Side). price_if (same_instrument n.instrument n.instrument && are_opposite n.side s) o.price) opposite
    ∙ ap (λ (b : Bool). price_if (b && are_opposite n.side (other_side n.side)) o.price)
    (same_instrument_itself n.instrument)
    ∙ ap (λ (b : Bool). price_if b o.price) (opposite_sides n.side) in
    ap (candidate_at n (Direct o)) meets

-- the candidate of a front, where its price is within the limit
abbrev made : Order → Bool → Option Candidate
made front within = cond within (Some (record { price = front.price; counterparty = Direct front })) None

small_made : (front : Order) (b : Bool) → IsLegPrice front.price → IfSome (made front b) HasLegPrice
small_made front true leg = leg
small_made front false leg = tt

direct_made : (front : Order) (b : Bool) → IfSome (made front b) IsDirect
direct_made front true = (front, refl)
direct_made front false = tt

best_made : (n front : Order) (xs : List Order) (b : Bool) → IsLegPrice front.price
    → IsFront xs n.instrument (other_side n.side) (Some front) → b ≡ is_within_limit n.side n.price front.price
    → IsBestDirect n xs (made front b)
best_made n front xs b leg first within =
    let value : candidate_of all_on n (Direct front) ≡ made front b =
    direct_within n front first.0.instrument_is first.0.side_is ∙ ap (made front) (sym within) in
    record {
      fair = λ on. subst (IsFair on n xs) value (candidate_fair on n xs (Direct front) first.0.stands);
      small = small_made front b leg;
      direct = direct_made front b;
      covers = λ on. subst (CoversOne on n xs n.instrument (other_side n.side)) value
          (front_beats on n xs n.instrument front first);
    }

-- it is the best direct candidate: the front stands opposite, and its price is compared as the code reads it
pub front_made : (n front : Order) (xs : List Order) (side : Side) (b : Bool) → side ≡ other_side n.side
    → IsFront xs n.instrument side (Some front) → All HasOrderPrice xs
    → b ≡ is_within_limit n.side n.price (to_z w64 (of_z w64 front.price)) →
    IsBestDirect n xs (cond b (Some (record { price = to_z w64 (of_z w64 front.price); counterparty = Direct front }))
    None)
front_made n front xs side b opposite first small within =
    let here = subst (λ (s : Side). IsFront xs n.instrument s (Some front)) opposite first in
    let price = All-contains HasOrderPrice xs front small here.0.stands in
    let leg : IsLegPrice front.price = record { low = grind (arith, price.low); high = grind (arith, price.high) } in
    let is = leg_is front.price leg in
    subst (λ (at : ℤ). IsBestDirect n xs (cond b (Some (record { price = at; counterparty = Direct front })) None))
    (sym is)
    (best_made n front xs b leg here (within ∙ ap (is_within_limit n.side n.price) is))

-- a pair that costs no less than one order does not rank before it
behind_direct : (n o a b : Order) (price at : ℤ) (p : Counterparty) → p ≡ Direct o
    → cost n.side at ≤ℤ cost n.side price →
    is_lt (rank_cmp (rank_at (cost n.side price) (Implied a b)) (rank_at (cost n.side at) p)) ≡ false
behind_direct n o a b price at p is low =
    subst (λ (q : Counterparty). is_lt (rank_cmp (rank_at (cost n.side price) (Implied a b))
    (rank_at (cost n.side at) q)) ≡ false) (sym is)
    (after_cost (cost n.side price) (cost n.side at) (int_cmp (cost n.side price) (cost n.side at)) _ refl low
    (λ e. refl))

module _ (on : Pairs) (n : Order) (xs : List Order) (m months : ℕ) (l : PairCost) (is : n.instrument ≡ Outright m)
    (near : All IsNearFirst xs) (cheapest : IsCheapest on xs n.side m months (Some l)) where
  direct_beats : (d : Candidate) → IsDirect d → int_lt l.cost (cost n.side d.price) ≡ false
      → CoversBelow on n xs months (Some d)
  direct_beats d direct no_less = λ a b price e lt.
      let k = month_of b.instrument in
      let pair = eligible_pair on n m k xs a b price is near e refl in
      let low = (cheapest.covers k a b lt pair).no_less in
      let over : cost n.side d.price ≤ℤ l.cost = grind (arith, ints, no_less) in
      let under : cost n.side d.price ≤ℤ cost n.side price =
      rw (price_costs on n m k xs a b price pair e.meets) (omega (arith, ints, over, low)) in
      behind_direct n direct.0 a b price d.price d.counterparty direct.1 under

  -- where the cheapest pair is not better, no pair ranks first
  pub not_better : (best : Option Candidate) → IfSome best IsDirect → is_better n best (cost n.side l.cost) ≡ false
      → CoversBelow on n xs months best
  not_better None direct h = too_dear on n xs m months l None is near cheapest h
  not_better (Some d) direct h = direct_beats d direct (rw (cost_twice n.side l.cost) at h)
