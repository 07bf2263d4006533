-- the fronts of two queues are at least as good as any pair of them
use Rattle.std.proofs.Common.{◌≡◌, ℕ, ◌≤◌, ℤ, ◌+ℤ◌, ◌≤ℤ◌, Bool, true, false, List, Option, Some, None, refl, subst, sym, ap, ◌∙◌, arith, IfSome, IsSomeAnd, cond}
use Rattle.std.specs.Cmp.{IsStrictWeakOrder}
use Rattle.std.specs.Ordering.{is_lt}
use Rattle.spread_rules.specs.declared.order.Side.{Side}
use Rattle.spread_rules.specs.declared.order.Side.TheVariants.{Buy, Sell}
use Rattle.spread_rules_rulebook.specs.declared.instrument.Instrument.{Instrument}
use Rattle.spread_rules.specs.declared.order.Order.{Order}
use Rattle.spread_rules.specs.declared.candidate.Counterparty.{Counterparty}
use Rattle.spread_rules.specs.declared.candidate.Counterparty.TheVariants.{Direct, Implied}
use Rattle.spread_rules.specs.declared.candidate.Candidate.{Candidate}
use Rattle.spread_rules.specs.Candidates.{cost, is_within_limit, price_of, AllStandIn, rank_cmp, Pairs, IsEligible}
use Rattle.spread_rules.specs.code.Candidates.{implied_price, candidate_of, better_by, all_on, takes_part}
use Rattle.spread_rules_rulebook.specs.Instruments.{month_of}
use Rattle.spread_rules.specs.code.Quiet.{Rests}
use Rattle.spread_rules.proofs.ranks.PlainIsLeast.{candidate_is}
use Rattle.spread_books_plain.specs.Queues.{IsFront}
use Rattle.spread_rules.specs.Legs.{other_side}
use Rattle.spread_books_search.specs.code.Best.{IsFair, CoversOne, CoversTwo}
use Rattle.spread_books_search.proofs.fronts.PairCost.{implied_price_sum, implied_price_again, within_cost, behind, rank_after, pair_le, pair_same, so_again}
use Rattle.spread_rules.proofs.clearings.BoughtIsSold.{so_is}
use Rattle.spread_rules.proofs.ranks.PairsSwitched.{priced, part_of, priced_again}

module _ (on : Pairs) where
  -- a front is no worse than another order of its queue, and no later at one price
  pub front_best : (xs : List Order) (of : Instrument) (side : Side) (f o : Order) → IsFront xs of side (Some f)
      → Rests xs of side o → (cost (other_side side) f.price ≤ℤ cost (other_side side) o.price)
      × (cost (other_side side) o.price ≡ cost (other_side side) f.price → f.place ≤ o.place)
  front_best xs of side f o h r = behind (cost (other_side side) o.price) (cost (other_side side) f.price) o.place
      f.place (h.1 o r)

  -- the fronts of a pair's queues make a candidate too
  pub fronts_meet : (n : Order) (xs : List Order) (of : Instrument) (side : Side) (and : Instrument) (and_side : Side)
      (f s a b : Order) (price : ℤ) →
      Rests xs of side f → Rests xs and and_side s → Rests xs of side a → Rests xs and and_side b
      → price_of on n (Implied a b) ≡ Some price → (q : ℤ) × (price_of on n (Implied f s) ≡ Some q)
  fronts_meet n xs of side and and_side f s a b price hf hs ha hb e =
      let t : implied_price n.side n.instrument side of and_side and a.price b.price ≡ Some price =
      rw (← ha.side_is, ← ha.instrument_is, ← hb.side_is, ← hb.instrument_is) (priced on n a b price e) in
      let r = implied_price_again n.side n.instrument side of and_side and a.price b.price price f.price s.price t in (
        r.0,
        priced_again on n f s r.0 (subst (λ (i : Instrument). takes_part on n.instrument i ≡ true)
            (ha.instrument_is ∙ sym hf.instrument_is) (part_of on n a b price e))
            (rw (hf.side_is, hf.instrument_is, hs.side_is, hs.instrument_is) r.1),
      )

  pub pair_cost : (n : Order) (xs : List Order) (of : Instrument) (side : Side) (and : Instrument) (and_side : Side)
      (a b : Order) (price : ℤ) →
      Rests xs of side a → Rests xs and and_side b → price_of on n (Implied a b) ≡ Some price
      → cost n.side price ≡ cost (other_side side) a.price +ℤ cost (other_side and_side) b.price
  pair_cost n xs of side and and_side a b price ha hb e =
      implied_price_sum n.side n.instrument side of and_side and a.price b.price price
      (rw (← ha.side_is, ← ha.instrument_is, ← hb.side_is, ← hb.instrument_is) (priced on n a b price e))

  module _ {O : Type 0} (before : O → O → Bool) (order : IsStrictWeakOrder before) where
    chosen_left : (o p q : O) (b : Bool) → before p o ≡ b → before q o ≡ false
        → IsSomeAnd (cond b (Some p) (Some o)) (λ x. before q x ≡ false)
    chosen_left o p q true e h = order.chain q o p h (order.one_way p o e)
    chosen_left o p q false e h = h

    chosen_right : (o p q : O) (b : Bool) → before p o ≡ b → before q p ≡ false
        → IsSomeAnd (cond b (Some p) (Some o)) (λ x. before q x ≡ false)
    chosen_right o p q true e h = h
    chosen_right o p q false e h = order.chain q p o h e

    pub stays_beaten : (best r : Option O) (q : O) → IsSomeAnd best (λ o. before q o ≡ false)
        → IsSomeAnd (better_by before best r) (λ o. before q o ≡ false)
    stays_beaten None r q h = absurd h
    stays_beaten (Some o) None q h = h
    stays_beaten (Some o) (Some p) q h = chosen_left o p q (before p o) refl h

    pub beaten_by : (best r : Option O) (q : O) → IsSomeAnd r (λ o. before q o ≡ false)
        → IsSomeAnd (better_by before best r) (λ o. before q o ≡ false)
    beaten_by best None q h = absurd h
    beaten_by None (Some p) q h = h
    beaten_by (Some o) (Some p) q h = chosen_right o p q (before p o) refl h

    one_of : (P : O → Type 0) (o p : O) (b : Bool) → P o → P p → IfSome (cond b (Some p) (Some o)) P
    one_of P o p true h k = k
    one_of P o p false h k = h

    pub better_has : (P : O → Type 0) (best r : Option O) → IfSome best P → IfSome r P
        → IfSome (better_by before best r) P
    better_has P None None h k = k
    better_has P None (Some p) h k = k
    better_has P (Some o) None h k = h
    better_has P (Some o) (Some p) h k = one_of P o p (before p o) h k

  -- what a counterparty of the list candidates is fair
  candidate_fair_at : (n : Order) (xs : List Order) (p : Counterparty) (r : Option Candidate) → candidate_of on n p ≡ r
      → AllStandIn xs p → IsFair on n xs r
  candidate_fair_at n xs p None e h = tt
  candidate_fair_at n xs p (Some q) e h =
      let own = candidate_is on n p q e in
      record {
        stands = subst (AllStandIn xs) (sym own.own) h;
        meets =
            subst (λ (w : Counterparty). price_of on n w ≡ Some q.price) (sym own.own) own.meets;
        within = own.within;
      }

  pub candidate_fair : (n : Order) (xs : List Order) (p : Counterparty) → AllStandIn xs p
      → IsFair on n xs (candidate_of on n p)
  candidate_fair n xs p h = candidate_fair_at n xs p (candidate_of on n p) refl h

  pub candidates : (n : Order) (p : Counterparty) (price : ℤ) → price_of on n p ≡ Some price
      → is_within_limit n.side n.price price ≡ true → candidate_of on n p ≡ Some
      (record { price = price; counterparty = p })
  candidates n p price e w = rw e (rw w refl)

  -- the fronts beat each pair of their queues
  pub fronts_beat : (n : Order) (xs : List Order) (of : Instrument) (side : Side) (and : Instrument) (and_side : Side)
      (f s : Order) →
      IsFront xs of side (Some f) → IsFront xs and and_side (Some s)
      → CoversTwo on n xs of side and and_side (candidate_of on n (Implied f s))
  fronts_beat n xs of side and and_side f s hf hs a b price ha hb h =
      let m = fronts_meet n xs of side and and_side f s a b price hf.0 hs.0 ha hb h.meets in
      let old : cost n.side price ≡ cost (other_side side) a.price +ℤ cost (other_side and_side) b.price =
      pair_cost n xs of side and and_side a b price ha hb h.meets in
      let new : cost n.side m.0 ≡ cost (other_side side) f.price +ℤ cost (other_side and_side) s.price =
      pair_cost n xs of side and and_side f s m.0 hf.0 hs.0 m.1 in
      let bf = front_best xs of side f a hf ha in
      let bs = front_best xs and and_side s b hs hb in
      let low : cost n.side m.0 ≤ℤ cost n.side price = pair_le _ _ _ _ _ _ new old bf.0 bs.0 in
      let months : month_of b.instrument ≡ month_of s.instrument =
      ap month_of (hb.instrument_is ∙ sym hs.0.instrument_is) in
      rw (candidates n (Implied f s) m.0 m.1 (within_cost n.side n.price price m.0 h.within low))
      (subst (λ (month : ℕ). is_lt (rank_cmp (record {
        cost = cost n.side price;
        implied = true;
        month = month;
        first =
            a.place;
        second = b.place;
      }) (record {
        cost = cost n.side m.0;
        implied = true;
        month = month_of s.instrument;
        first = f.place;
        second = s.place;
      })) ≡ false) (sym months)
      (rank_after (cost n.side price) (cost n.side m.0) true (month_of s.instrument) a.place f.place b.place s.place low
      (λ e. let same = pair_same _ _ _ _ _ _ new old bf.0 bs.0 e in (bf.1 same.0, bs.1 same.1))))

  opposite_back : (side : Side) → other_side (other_side side) ≡ side
  opposite_back Buy = refl
  opposite_back Sell = refl

  -- the front beats each single of its queue
  pub front_beats : (n : Order) (xs : List Order) (of : Instrument) (f : Order) →
      IsFront xs of (other_side n.side) (Some f) → CoversOne on n xs of (other_side n.side)
      (candidate_of on n (Direct f))
  front_beats n xs of f hf o price ho h =
      let is : o.price ≡ price = so_is _ _ price h.meets in
      let meets : price_of on n (Direct f) ≡ Some f.price =
      rw (hf.0.instrument_is ∙ sym ho.instrument_is, hf.0.side_is ∙ sym ho.side_is)
      (so_again _ o.price f.price price h.meets) in
      let b = rw (opposite_back n.side) at (front_best xs of (other_side n.side) f o hf ho) in
      let low : cost n.side f.price ≤ℤ cost n.side price =
      subst (λ (p : ℤ). cost n.side f.price ≤ℤ cost n.side p) is b.0 in
      rw (candidates n (Direct f) f.price meets (within_cost n.side n.price price f.price h.within low))
      (rank_after (cost n.side price) (cost n.side f.price) false 0 o.place f.place 0 0 low
      (λ e. (b.1 (ap (cost n.side) is ∙ e), omega arith)))

  -- ---- as where all pairs take part

  eligible_anyway : (n : Order) (xs : List Order) (a b : Order) (price : ℤ)
      → IsEligible on n xs (record { price = price; counterparty = Implied a b })
      → IsEligible all_on n xs (record { price = price; counterparty = Implied a b })
  eligible_anyway n xs a b price e = record {
    stands = e.stands;
    meets = priced on n a b price e.meets;
    within =
        e.within;
  }

  -- what beats each pair where all take part beats each one that does
  pub covers_anyway : (n : Order) (xs : List Order) (of : Instrument) (side : Side) (and : Instrument) (and_side : Side)
      (best : Option Candidate) → CoversTwo all_on n xs of side and and_side best
      → CoversTwo on n xs of side and and_side best
  covers_anyway n xs of side and and_side best covers a b price r s e =
      covers a b price r s (eligible_anyway n xs a b price e)
