-- who is eligible stands in one of the queues
use Rattle.std.proofs.Common.{◌≡◌, ℕ, ◌+◌, ◌<◌, ℤ, Bool, true, false, List, Option, Some, None, ◌⊎◌, inl, inr, refl, sym, arith, nat_lt}
use Rattle.std.proofs.lemmas.Bool.{and_parts}
use Rattle.std.proofs.lemmas.Bool.Decides.{nat_tests}
use Rattle.spread_rules.specs.declared.order.Side.{Side}
use Rattle.spread_rules.specs.declared.order.Side.TheVariants.{Buy, Sell}
use Rattle.spread_rules_rulebook.specs.declared.instrument.Instrument.{Instrument}
use Rattle.spread_rules_rulebook.specs.declared.instrument.Instrument.TheVariants.{Outright, Spread}
use Rattle.spread_rules.specs.declared.order.Order.{Order}
use Rattle.spread_rules.specs.declared.candidate.Counterparty.{Counterparty}
use Rattle.spread_rules.specs.declared.candidate.Counterparty.TheVariants.{Direct, Implied}
use Rattle.spread_rules.specs.declared.candidate.Candidate.{Candidate}
use Rattle.spread_rules.specs.Candidates.{IsEligible, Pairs, IsBest}
use Rattle.spread_rules.specs.code.Candidates.{implied_price, are_opposite}
use Rattle.spread_rules_rulebook.specs.Instruments.{month_of}
use Rattle.spread_rules.specs.code.Quiet.{Rests}
use Rattle.spread_rules.specs.Legs.{other_side}
use Rattle.spread_rules.proofs.clearings.BoughtIsSold.{same_instrument_is, so_true}
use Rattle.spread_books_search.specs.Listed.{IsInMonths}
use Rattle.spread_books_search.specs.code.Best.{IsFair, Beats, CoversOne}

module _ (on : Pairs) where
  below_or_at : (m k : ℕ) (b : Bool) → nat_lt m k ≡ b → m < k + 1 → (m < k) ⊎ (m ≡ k)
  below_or_at m k true e h = inl (grind (arith, nat_tests))
  below_or_at m k false e h = inr (grind (arith, nat_tests))

  pub less_or_same : (m k : ℕ) → m < k + 1 → (m < k) ⊎ (m ≡ k)
  less_or_same m k h = below_or_at m k (nat_lt m k) refl h

  opposite_is : (a b : Side) → are_opposite a b ≡ true → b ≡ other_side a
  opposite_is Buy Sell h = refl
  opposite_is Sell Buy h = refl
  opposite_is Buy Buy h = cc
  opposite_is Sell Sell h = cc

  -- an eligible single is of the other_side queue
  pub single_rests : (n : Order) (xs : List Order) (o : Order) (price : ℤ)
      → IsEligible on n xs (record { price = price; counterparty = Direct o })
      → Rests xs n.instrument (other_side n.side) o
  single_rests n xs o price e =
      let t = so_true _ _ _ e.meets in
      record {
        stands = e.stands;
        instrument_is = sym (same_instrument_is _ _ (and_parts _ _ t).0);
        side_is =
            opposite_is _ _ (and_parts _ _ t).1;
      }

  -- the pairs of a spread
  pub record IsSpreadPair (i j : ℕ) (s sa : Side) (A : Instrument) (sb : Side) (B : Instrument) : Type 0 where
    pub of : A ≡ Outright i
    pub sided : sa ≡ other_side s
    pub and : B ≡ Outright j
    pub and_on : sb ≡ s

  pub spread_pair : (i j : ℕ) (s sa : Side) (A : Instrument) (sb : Side) (B : Instrument) (x y p : ℤ)
      → implied_price s (Spread i j) sa A sb B x y ≡ Some p → IsSpreadPair i j s sa A sb B
  spread_pair i j Buy Sell (Outright k) Buy (Outright l) x y p h = let t = so_true _ _ _ h in
      record { of = grind (arith, nat_tests); sided = refl; and = grind (arith, nat_tests); and_on = refl }
  spread_pair i j Sell Buy (Outright k) Sell (Outright l) x y p h = let t = so_true _ _ _ h in
      record { of = grind (arith, nat_tests); sided = refl; and = grind (arith, nat_tests); and_on = refl }
  spread_pair _ _ _ _ (Outright u) _ (Outright k) x y p h = cc
  spread_pair _ _ _ _ (Outright u) _ (Spread k l) x y p h = cc
  spread_pair _ _ _ _ (Spread u v) _ (Outright k) x y p h = cc
  spread_pair _ _ _ _ (Spread u v) _ (Spread k l) x y p h = cc

  -- what beats each eligible candidate is the least
  best_at : (n : Order) (xs : List Order) (r : Option Candidate) → IsFair on n xs r
      → ((q : Candidate) → IsEligible on n xs q → Beats n r q) → IsBest on n xs r
  best_at n xs None f h = h
  best_at n xs (Some o) f h = record { eligible = f; least = h }

  pub best_from : (n : Order) (xs : List Order) (r : Option Candidate) → IsFair on n xs r →
      CoversOne on n xs n.instrument (other_side n.side) r
      → ((a b : Order) (price : ℤ) → IsEligible on n xs (record { price = price; counterparty = Implied a b })
      → Beats n r (record { price = price; counterparty = Implied a b })) → IsBest on n xs r
  best_from n xs r f one two = best_at n xs r f (λ q e. each q.counterparty q.price e) where
    each : (p : Counterparty) (price : ℤ) → IsEligible on n xs (record { price = price; counterparty = p })
        → Beats n r (record { price = price; counterparty = p })
    each (Direct o) price e = one o price (single_rests n xs o price e) e
    each (Implied a b) price e = two a b price e

  pub month_below : (months : ℕ) (o : Order) → IsInMonths months o.instrument → month_of o.instrument < months
  month_below months o h = below o.instrument h where
    below : (i : Instrument) → IsInMonths months i → month_of i < months
    below (Outright m) h = h
    below (Spread i j) h = h
