-- what costs the least among all months, after the fronts of one of them changed
use Rattle.std.proofs.Common.{◌≡◌, ℕ, ◌<◌, ◌≤◌, ◌==◌, ◌&&◌, ℤ, ◌+ℤ◌, ◌≤ℤ◌, Bool, true, false, cond, List, Option, Some, None, IfSome, IsSomeAnd, refl, sym, ap, ◌∙◌, subst, arith, inl, inr}
use Rattle.std.proofs.lemmas.Bool.Decides.{nat_tests}
use Rattle.std.proofs.lemmas.Int.{ints}
use Rattle.std.specs.Prelude.{int_lt}
use Rattle.std.specs.Ordering.{nat_cmp, int_cmp, ordering_then, is_lt}
use Rattle.spread_rules.specs.declared.order.Side.{Side}
use Rattle.spread_rules_rulebook.specs.declared.instrument.Instrument.{Instrument}
use Rattle.spread_rules_rulebook.specs.declared.instrument.Instrument.TheVariants.{Outright}
use Rattle.spread_rules.specs.declared.order.Order.{Order}
use Rattle.spread_rules.specs.Candidates.{Pairs, cost}
use Rattle.spread_rules_rulebook.specs.Prices.{IsLegPrice}
use Rattle.spread_rules.specs.Legs.{other_side}
use Rattle.spread_rules.specs.code.Quiet.{Rests}
use Rattle.spread_books_rows.proofs.places.Ascending.{is_so}
use Rattle.spread_books_plain.specs.declared.pair.PairCost.{PairCost}
use Rattle.spread_books_plain.specs.Pairs.{spread_of, spread_side, cost_of_pair, IsPair, HasFronts, IsNoCheaper, IsCheapest}
use Rattle.spread_books_search.specs.code.Cheapest.{CostsOfFront, CostsOfFronts, cheaper_of, KeepsColumn, KeepsOthers, sooner_of}
use Rattle.spread_books_quotes.specs.code.QuoteTable.{AreAmong}
use Rattle.spread_books_search.proofs.fronts.PairCost.{behind, pair_le}
use Rattle.spread_books_search.proofs.fronts.MonthPairs.{fresh, front_least}
use Rattle.spread_books_quotes.proofs.quotes.Costs.{cost_there, no_dearer}

dearer : (held : Option PairCost) (c d : ℤ) (k : ℕ) → c ≤ℤ d → IsSomeAnd held (λ l. IsNoCheaper l c k)
    → IsSomeAnd held (λ l. IsNoCheaper l d k)
dearer None c d k more h = h
dearer (Some l) c d k more h =
    let low = h.no_less in
    record {
      no_less = omega (arith, ints, low, more);
      no_earlier =
          λ e. h.no_earlier (omega (arith, ints, low, more, e));
    }

differs : (k via : ℕ) → (k == via) ≡ false → k ≡ via → ⊥
differs k via h e = grind (arith, nat_tests, h, e)

same : (k via : ℕ) → (k == via) ≡ true → k ≡ via
same k via h = grind (arith, nat_tests, h)

-- the months of the other columns
pub not_via : (months via k : ℕ) → months ≤ via → k < months → k ≡ via → ⊥
not_via months via k h lt e = omega (arith, h, lt, e)

module _ (on : Pairs) where
  -- ---- one column

  -- fronts that cost so much, where both keep what they cost
  kept_fronts : (xs ys : List Order) (side : Side) (m k : ℕ) (c : ℤ) → KeepsColumn xs ys side m k
      → HasFronts on xs side m k c → HasFronts on ys side m k c
  kept_fronts xs ys side m k c keep f =
      let a = keep.first (Some _) (record { front = f.a; is = f.first; sum = refl }) in
      let b = keep.second (Some _) (record { front = f.b; is = f.second; sum = refl }) in
      record {
        is_on = f.is_on;
        a = a.front;
        b = b.front;
        first = a.is;
        second = b.is;
        sum = f.sum ∙ (ap (λ (v : ℤ). v +ℤ cost (other_side (other_side side)) f.b.price) a.sum
            ∙ ap (λ (v : ℤ). cost (other_side (spread_side side m k)) a.front.price +ℤ v) b.sum);
      }

  module _ (xs ys : List Order) (side : Side) (m k : ℕ) (held : Option PairCost) (keep : KeepsColumn xs ys side m k)
    where
      covered_by : (a b : Order) → ((x y : Order) → IsPair on xs side m k x y
          → IsSomeAnd held (λ l. IsNoCheaper l (cost_of_pair side m k x y) k)) → IsPair on ys side m k a b →
          (c d : Option ℤ) → CostsOfFront xs (spread_of m k) (spread_side side m k) c
          → CostsOfFront xs (Outright k) (other_side side) d →
          IsSomeAnd held (λ l. IsNoCheaper l (cost_of_pair side m k a b) k)
      covered_by a b covers p None d f g = absurd (keep.first None f a p.first)
      covered_by a b covers p (Some u) None f g = absurd (keep.second None g b p.second)
      covered_by a b covers p (Some u) (Some v) f g =
          let first = no_dearer ys (spread_of m k) (spread_side side m k) u a (keep.first (Some u) f) p.first in
          let second = no_dearer ys (Outright k) (other_side side) v b (keep.second (Some v) g) p.second in
          let was = covers f.front g.front (record { is_on = p.is_on; first = f.is.0; second = g.is.0 }) in
          dearer held (cost_of_pair side m k f.front g.front) (cost_of_pair side m k a b) k
          (pair_le _ _ _ _ _ _ (ap (λ (w : ℤ). w +ℤ cost (other_side (other_side side)) g.front.price) (sym f.sum)
          ∙ ap (λ (w : ℤ). u +ℤ w) (sym g.sum)) refl first second) was

      -- each pair of a column that keeps what its fronts cost is covered as it was
      covered : (a b : Order) → ((x y : Order) → IsPair on xs side m k x y
          → IsSomeAnd held (λ l. IsNoCheaper l (cost_of_pair side m k x y) k)) → IsPair on ys side m k a b →
          IsSomeAnd held (λ l. IsNoCheaper l (cost_of_pair side m k a b) k)
      covered a b covers p =
          let c = cost_there xs (spread_of m k) (spread_side side m k) in
          let d = cost_there xs (Outright k) (other_side side) in
          covered_by a b covers p c.0 d.0 c.1 d.1

  -- ---- all columns

  held_kept : (xs ys : List Order) (side : Side) (m months : ℕ) (held : Option PairCost)
      → ((k : ℕ) → k < months → KeepsColumn xs ys side m k) →
      IfSome held (λ l. HasFronts on xs side m l.other_month l.cost) → IfSome held (λ l. l.other_month < months)
      → IfSome held (λ l. HasFronts on ys side m l.other_month l.cost)
  held_kept xs ys side m months None keep f below = f
  held_kept xs ys side m months (Some l) keep f below =
      kept_fronts xs ys side m l.other_month l.cost (keep l.other_month below) f

  -- where every column keeps what its fronts cost
  pub kept_row : (xs ys : List Order) (side : Side) (m months : ℕ) (held : Option PairCost)
      → ((k : ℕ) → k < months → KeepsColumn xs ys side m k) → IsCheapest on xs side m months held
      → IsCheapest on ys side m months held
  kept_row xs ys side m months held keep h = record {
    fronts = held_kept xs ys side m months held keep h.fronts h.below;
    small = h.small;
    below = h.below;
    covers = λ k a b lt p. covered xs ys side m k held (keep k lt) a b (λ x y q. h.covers k x y lt q) p;
  }

  still_rests : (xs ys : List Order) (i : Instrument) (s : Side) (o : Order) → AreAmong xs ys → Rests xs i s o
      → Rests ys i s o
  still_rests xs ys i s o among r = record {
    stands = among o r.stands;
    instrument_is = r.instrument_is;
    side_is =
        r.side_is;
  }

  -- where orders of one month left, and what cost the least is of another one
  pub left_row : (xs ys : List Order) (side : Side) (m months via : ℕ) (held : Option PairCost) → AreAmong ys xs
      → KeepsOthers xs ys side m via → IfSome held (λ l. (l.other_month == via) ≡ false) →
      IsCheapest on xs side m months held → IsCheapest on ys side m months held
  left_row xs ys side m months via held fewer keep other h = record {
    fronts = fronts held other h.fronts;
    small = h.small;
    below = h.below;
    covers = λ k a b lt p. h.covers k a b lt (record {
      is_on = p.is_on;
      first = still_rests ys xs (spread_of m k) (spread_side side m k) a fewer p.first;
      second = still_rests ys xs (Outright k) (other_side side) b fewer p.second;
    });
  }
    where
      fronts : (l : Option PairCost) → IfSome l (λ c. (c.other_month == via) ≡ false)
          → IfSome l (λ c. HasFronts on xs side m c.other_month c.cost)
          → IfSome l (λ c. HasFronts on ys side m c.other_month c.cost)
      fronts None e f = f
      fronts (Some l) e f = kept_fronts xs ys side m l.other_month l.cost
          (keep l.other_month (differs l.other_month via e)) f

  -- fronts that still rest are a pair
  still_pair : (xs ys : List Order) (side : Side) (m k : ℕ) (c : ℤ) → AreAmong xs ys → (f : HasFronts on xs side m k c)
      → IsPair on ys side m k f.a f.b
  still_pair xs ys side m k c among f = record {
    is_on = f.is_on;
    first = still_rests xs ys (spread_of m k) (spread_side side m k) f.a among f.first.0;
    second = still_rests xs ys (Outright k) (other_side side) f.b among f.second.0;
  }

  -- what cost the least is of that month, and costs more now, or is there no longer
  abbrev must_search : PairCost → Option ℤ → ℕ → Bool
  must_search held None via = held.other_month == via
  must_search held (Some cost) via = held.other_month == via && int_lt held.cost cost

  abbrev sooner_by : PairCost → Option ℤ → ℕ → PairCost
  sooner_by held None via = held
  sooner_by held (Some cost) via = sooner_of cost via held

  -- not so where orders came
  no_search : (xs ys : List Order) (side : Side) (m via : ℕ) (held : PairCost) (c : Option ℤ) → AreAmong xs ys
      → HasFronts on xs side m held.other_month held.cost → CostsOfFronts on ys side m via c
      → must_search held c via ≡ false
  no_search xs ys side m via held None among f g = elim (is_so (held.other_month == via)) [
    | inl e ↦
        let h = subst (λ (j : ℕ). HasFronts on xs side m j held.cost) (same held.other_month via e) f in
        absurd (g h.a h.b (still_pair xs ys side m via held.cost among h))
    | inr e ↦ e
  ]
  no_search xs ys side m via held (Some c) among f g = elim (is_so (held.other_month == via)) [
    | inl e ↦
        let h = subst (λ (j : ℕ). HasFronts on xs side m j held.cost) (same held.other_month via e) f in
        let low : c ≤ℤ held.cost = subst (λ (v : ℤ). c ≤ℤ v) (sym h.sum)
        (front_least on ys side m via c h.a h.b g (still_pair xs ys side m via held.cost among h)) in
        let no_less : int_lt held.cost c ≡ false = grind (arith, ints, low) in
        rw (e, no_less) refl
    | inr e ↦ rw e refl
  ]

  module _ (xs ys : List Order) (side : Side) (m months via : ℕ) (keep : KeepsOthers xs ys side m via)
      (lt : via < months) where
    -- where no two orders met it
    pub first_pair : (c : Option ℤ) → IsCheapest on xs side m months None → CostsOfFronts on ys side m via c
        → IfSome c IsLegPrice → IsCheapest on ys side m months (cheaper_of None c via)
    first_pair None h f small = record {
      fronts = tt;
      small = tt;
      below = tt;
      covers = λ k a b below p. elim (is_so (k == via)) [
        | inl e ↦ f a b (subst (λ (j : ℕ). IsPair on ys side m j a b) (same k via e) p)
        | inr e ↦ covered xs ys side m k None (keep k (differs k via e)) a b (λ x y q. h.covers k x y below q) p
      ];
    }
    first_pair (Some c) h f small = record {
      fronts = f;
      small = small;
      below = lt;
      covers = λ k a b below p. elim (is_so (k == via)) [
        | inl e ↦ fresh on ys side m via c k a b f (same k via e) p
        | inr e ↦ absurd (covered xs ys side m k None (keep k (differs k via e)) a b (λ x y q. h.covers k x y below q)
            p)
      ];
    }

    sooner_is : (x y : ℤ) (k l : ℕ) → is_lt (ordering_then (int_cmp x y) (nat_cmp k l)) ≡ true → (x ≤ℤ y)
        × (x ≡ y → k < l)
    sooner_is x y k l h = (grind (arith, ints, nat_tests), λ e. grind (arith, ints, nat_tests))

    -- the held one is of the month that changed, and does not cost more
    held_stays : (held : PairCost) (c : ℤ) → must_search held (Some c) via ≡ false → held.cost ≤ℤ c
        → HasFronts on ys side m via c → held.other_month ≡ via → HasFronts on ys side m held.other_month held.cost
    held_stays held c search no_less f at =
        let here : (held.other_month == via) ≡ true = grind (arith, nat_tests, at) in
        let over : c ≤ℤ held.cost = let s = rw here at search in grind (arith, ints, s) in
        let is : c ≡ held.cost = omega (arith, ints, over, no_less) in
        subst (λ (k : ℕ). HasFronts on ys side m k held.cost) (sym at) (subst (HasFronts on ys side m via) is f)

    after : (held : PairCost) (c : ℤ) (b : Bool) → is_lt
        (ordering_then (int_cmp c held.cost) (nat_cmp via held.other_month)) ≡ b
        → must_search held (Some c) via ≡ false →
        IsCheapest on xs side m months (Some held) → HasFronts on ys side m via c → IsLegPrice c
        → IsCheapest on ys side m months (Some (cond b (record { cost = c; other_month = via }) held))
    after held c true sooner search h f small = record {
      fronts = f;
      small = small;
      below = lt;
      covers = λ k a b below p. elim (is_so (k == via)) [
        | inl e ↦ fresh on ys side m via c k a b f (same k via e) p
        | inr e ↦
            let q = covered xs ys side m k (Some held) (keep k (differs k via e)) a b (λ x y r. h.covers k x y below r)
            p in
            let low = q.no_less in
            let s = sooner_is c held.cost via held.other_month sooner in
            let first = s.0 in
            record {
              no_less = omega (arith, ints, low, first);
              no_earlier = λ i.
                  let one : c ≡ held.cost = omega (arith, ints, low, first, i) in
                  let x = s.1 one in
                  let y = q.no_earlier (omega (arith, ints, low, first, i)) in
                  omega (arith, x, y);
            }
      ];
    }
    after held c false later search h f small =
        let s = behind c held.cost via held.other_month later in
        let first = s.0 in
        record {
          fronts = elim (is_so (held.other_month == via)) [
            | inl e ↦ held_stays held c search first f (same held.other_month via e)
            | inr e ↦ kept_fronts xs ys side m held.other_month held.cost
                (keep held.other_month (differs held.other_month via e)) h.fronts
          ];
          small = h.small;
          below = h.below;
          covers = λ k a b below p. elim (is_so (k == via)) [
            | inl e ↦
                let q = fresh on ys side m via c k a b f (same k via e) p in
                let low = q.no_less in
                record {
                  no_less = omega (arith, ints, low, first);
                  no_earlier = λ i.
                      let one : c ≡ held.cost = omega (arith, ints, low, first, i) in
                      let x = s.1 one in
                      let at = same k via e in
                      omega (arith, x, at);
                }
            | inr e ↦ covered xs ys side m k (Some held) (keep k (differs k via e)) a b
                (λ x y r. h.covers k x y below r) p
          ];
        }

    -- where what cost the least is known to cost no more
    known_pair_next : (held : PairCost) (c : Option ℤ) → must_search held c via ≡ false
        → IsCheapest on xs side m months (Some held) → CostsOfFronts on ys side m via c → IfSome c IsLegPrice →
        IsCheapest on ys side m months (Some (sooner_by held c via))
    known_pair_next held None search h f small = record {
      fronts = kept_fronts xs ys side m held.other_month held.cost
          (keep held.other_month (differs held.other_month via search)) h.fronts;
      small = h.small;
      below = h.below;
      covers = λ k a b below p. elim (is_so (k == via)) [
        | inl e ↦ absurd (f a b (subst (λ (j : ℕ). IsPair on ys side m j a b) (same k via e) p))
        | inr e ↦ covered xs ys side m k (Some held) (keep k (differs k via e)) a b (λ x y r. h.covers k x y below r) p
      ];
    }
    known_pair_next held (Some c) search h f small = after held c
        (is_lt (ordering_then (int_cmp c held.cost) (nat_cmp via held.other_month))) refl search h f small

    -- where orders came
    pub next_pair : (held : PairCost) (c : Option ℤ) → AreAmong xs ys → IsCheapest on xs side m months (Some held)
        → CostsOfFronts on ys side m via c → IfSome c IsLegPrice →
        IsCheapest on ys side m months (Some (sooner_by held c via))
    next_pair held c among h f small = known_pair_next held c (no_search xs ys side m via held c among h.fronts f) h f
        small
