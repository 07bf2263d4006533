-- the fronts of the month that costs the least beat every pair
use Rattle.std.proofs.Common.{◌≡◌, ℕ, ◌+◌, ◌<◌, ◌==◌, ℤ, ◌+ℤ◌, ◌≤ℤ◌, ◌<ℤ◌, Bool, true, false, ◌&&◌, cond, nat_lt, List, All, Option, Some, None, IfSome, inl, inr, refl, subst, sym, ap, ◌∙◌, arith, Equal, Less, Greater, FitsSigned, to_z, of_z, w64}
use Rattle.std.proofs.lemmas.Bool.{and_parts}
use Rattle.std.specs.Prelude.{int_lt}
use Rattle.std.proofs.lemmas.Bool.Decides.{nat_tests}
use Rattle.std.proofs.lemmas.Int.{ints, to_z-of_z}
use Rattle.spread_rules_rulebook.proofs.rulebook_texts.OrderPrices.{order_is}
use Rattle.std.proofs.lemmas.List.Elements.{All-contains}
use Rattle.std.specs.Ordering.{nat_cmp, int_cmp, ordering_then, is_lt}
use Rattle.std.specs.declared.cmp.Ordering.{Ordering}
use Rattle.std.proofs.lemmas.Cmp.{ranked}
use Rattle.spread_rules.specs.declared.order.Side.{Side}
use Rattle.spread_rules.specs.declared.order.Side.TheVariants.{Buy, Sell}
use Rattle.spread_rules_rulebook.specs.declared.instrument.Instrument.{Instrument}
use Rattle.spread_rules_rulebook.specs.declared.instrument.Instrument.TheVariants.{Outright, Spread}
use Rattle.spread_rules.specs.declared.order.Order.{Order}
use Rattle.spread_rules.specs.declared.candidate.Counterparty.TheVariants.{Implied}
use Rattle.spread_rules.specs.declared.candidate.Candidate.{Candidate}
use Rattle.spread_rules.specs.code.Cases.{price_if}
use Rattle.spread_rules.specs.Candidates.{cost, is_within_limit, rank_cmp, price_of, is_before, IsEligible, Pairs}
use Rattle.spread_rules.specs.code.Candidates.{implied_price, takes_part, all_on, HasOrderPrice}
use Rattle.spread_rules_rulebook.specs.Instruments.{month_of}
use Rattle.spread_rules_rulebook.specs.Prices.{IsOrderPrice, IsLegPrice}
use Rattle.spread_rules.specs.Legs.{other_side}
use Rattle.spread_rules.proofs.ranks.PlainIsLeast.{ranks}
use Rattle.spread_rules.proofs.clearings.BoughtIsSold.{is_less, is_not_less, so_true}
use Rattle.spread_rules.proofs.ranks.PairsSwitched.{priced, part_of, priced_again}
use Rattle.spread_books_search.specs.Listed.{IsNearBeforeFar, IsNearFirst}
use Rattle.spread_books_plain.specs.declared.pair.PairCost.{PairCost}
use Rattle.spread_books_search.specs.code.Best.{Beats, CoversTwo, CoversBelow}
use Rattle.spread_books_plain.specs.Pairs.{spread_of, spread_side, is_pair_on, cost_of_pair, IsPair, HasFronts, IsNoCheaper, IsCheapest}
use Rattle.spread_books_search.specs.code.Cheapest.{HasFront, CostsOfFronts, cheaper_of}
use Rattle.spread_books_search.proofs.fronts.PairCost.{within_cost, after_cost, pair_le}
use Rattle.spread_books_search.proofs.fronts.BeatAnyPair.{front_best, pair_cost}
use Rattle.spread_books_search.proofs.fronts.Suffice.{less_or_same}
use Rattle.spread_books_search.proofs.fronts.Levels.{front_of_level}
use Rattle.spread_books_plain.specs.Queues.{IsFrontLevel}
use Rattle.spread_rules.specs.declared.order.Level.{Level}

-- ---- which pairs meet an order of one month

record IsMonthPair (side : Side) (m k : ℕ) (sa : Side) (A : Instrument) (sb : Side) (B : Instrument) : Type 0 where
  of : A ≡ spread_of m k
  sided : sa ≡ spread_side side m k
  and : B ≡ Outright k
  and_on : sb ≡ other_side side

number_is : (m n : ℕ) → (m == n) ≡ true → m ≡ n
number_is m n e = grind (arith, nat_tests, e)

months_are : (m i l j : ℕ) → (m == i && l == j) ≡ true → (m ≡ i) × (l ≡ j)
months_are m i l j h =
    let t = and_parts (m == i) (l == j) h in
    (number_is m i t.0, number_is l j t.1)

-- of two months that are in that order
pair_of : (s : Side) (m k l : ℕ) (in_order : Bool) → nat_lt m k ≡ in_order → l ≡ k →
    IsMonthPair s m k (cond in_order (other_side s) s) (cond in_order (Spread m k) (Spread k m)) (other_side s)
    (Outright l)
pair_of s m k l in_order lt at = record { of = rw lt refl; sided = rw lt refl; and = ap Outright at; and_on = refl }

near_pair : (s : Side) (m k i j l : ℕ) → (m == i && l == j) ≡ true → i < j → l ≡ k
    → IsMonthPair s m k (other_side s) (Spread i j) (other_side s) (Outright l)
near_pair s m k i j l h near at =
    let t = months_are m i l j h in
    let of : Spread m k ≡ Spread i j = let a = t.0 in let b = t.1 in cc in
    subst (λ (A : Instrument). IsMonthPair s m k (other_side s) A (other_side s) (Outright l)) of
    (pair_of s m k l true (is_less m k (omega (arith, t.0, t.1))) at)

far_pair : (s : Side) (m k i j l : ℕ) → (m == j && l == i) ≡ true → i < j → l ≡ k
    → IsMonthPair s m k s (Spread i j) (other_side s) (Outright l)
far_pair s m k i j l h near at =
    let t = months_are m j l i h in
    let of : Spread k m ≡ Spread i j = let a = t.0 in let b = t.1 in cc in
    subst (λ (A : Instrument). IsMonthPair s m k s A (other_side s) (Outright l)) of
    (pair_of s m k l false (is_not_less m k (omega (arith, t.0, t.1))) at)

month_pair : (s : Side) (m k : ℕ) (sa : Side) (A : Instrument) (sb : Side) (B : Instrument) (x y p : ℤ)
    → implied_price s (Outright m) sa A sb B x y ≡ Some p → IsNearBeforeFar A → month_of B ≡ k
    → IsMonthPair s m k sa A sb B
month_pair Buy m k Sell (Spread i j) Sell (Outright l) x y p h near at =
    near_pair Buy m k i j l (so_true _ _ p h) near at
month_pair Sell m k Buy (Spread i j) Buy (Outright l) x y p h near at =
    near_pair Sell m k i j l (so_true _ _ p h) near at
month_pair Buy m k Buy (Spread i j) Sell (Outright l) x y p h near at = far_pair Buy m k i j l (so_true _ _ p h) near at
month_pair Sell m k Sell (Spread i j) Buy (Outright l) x y p h near at =
    far_pair Sell m k i j l (so_true _ _ p h) near at
month_pair _ m k _ (Outright g) _ (Outright l) x y p h near at = cc
month_pair _ m k _ (Outright g) _ (Spread l n) x y p h near at = cc
month_pair _ m k _ (Spread i j) _ (Outright l) x y p h near at = cc
month_pair _ m k _ (Spread i j) _ (Spread l n) x y p h near at = cc

itself : (m k : ℕ) (v : ℤ) → price_if (m == m && k == k) v ≡ Some v
itself m k v =
    let a : (m == m) ≡ true = grind (arith, nat_tests) in
    let b : (k == k) ≡ true = grind (arith, nat_tests) in
    rw (a, b) refl

queues_meet : (s : Side) (m k : ℕ) (x y : ℤ) → (q : ℤ)
    × (implied_price s (Outright m) (spread_side s m k) (spread_of m k) (other_side s) (Outright k) x y ≡ Some q)
queues_meet s m k x y = by_order s (nat_lt m k)
  where
    by_order : (s : Side) (b : Bool) → (q : ℤ) × (implied_price s (Outright m) (cond b (other_side s) s)
        (cond b (Spread m k) (Spread k m)) (other_side s) (Outright k) x y ≡ Some q)
    by_order Buy true = (_, itself m k _)
    by_order Sell true = (_, itself m k _)
    by_order Buy false = (_, itself m k _)
    by_order Sell false = (_, itself m k _)

later_month : (k l : ℕ) (o q : Ordering) → o ≡ nat_cmp k l → l < k → is_lt (ordering_then o q) ≡ false
later_month k l Less q e h = let c = ranked k l Less e in absurd (omega arith)
later_month k l Equal q e h = let c = ranked k l Equal e in absurd (omega arith)
later_month k l Greater q e h = refl

later : (x y : ℤ) (k l a b u v : ℕ) → y ≤ℤ x → (x ≡ y → l < k) →
    is_lt (rank_cmp (record { cost = x; implied = true; month = k; first = a; second = u })
    (record { cost = y; implied = true; month = l; first = b; second = v })) ≡ false
later x y k l a b u v h before = after_cost x y (int_cmp x y) _ refl h
    (λ e. later_month k l (nat_cmp k l) _ refl (before e))

beats_too : (n : Order) (r : Option Candidate) (p q : Candidate) → Beats n r q → is_before n p q ≡ false → Beats n r p
beats_too n None p q h e = absurd h
beats_too n (Some o) p q h e = (ranks all_on n).chain p q o e h

pub cost_twice : (side : Side) (c : ℤ) → cost side (cost side c) ≡ c
cost_twice Buy c = refl
cost_twice Sell c = omega (arith, ints)

module _ (on : Pairs) where
  -- whether a spread and an order of a month take part
  pub month_takes_part : (m k : ℕ) → takes_part on (Outright m) (spread_of m k) ≡ is_pair_on on m k
  month_takes_part m k = by_order (nat_lt m k)
    where
      by_order : (b : Bool) → takes_part on (Outright m) (cond b (Spread m k) (Spread k m)) ≡ cond b (on m k) (on k m)
      by_order true = refl
      by_order false = refl

  pub pair_takes_part : (n : Order) (m k : ℕ) (a : Instrument) → n.instrument ≡ Outright m → a ≡ spread_of m k
      → takes_part on n.instrument a ≡ is_pair_on on m k
  pair_takes_part n m k a is at = ap (λ (i : Instrument). takes_part on i a) is
      ∙ (ap (takes_part on (Outright m)) at ∙ month_takes_part m k)

  pub eligible_pair : (n : Order) (m k : ℕ) (xs : List Order) (a b : Order) (price : ℤ) → n.instrument ≡ Outright m
      → All IsNearFirst xs →
      IsEligible on n xs (record { price = price; counterparty = Implied a b }) → month_of b.instrument ≡ k
      → IsPair on xs n.side m k a b
  eligible_pair n m k xs a b price is near e at =
      let shape = month_pair n.side m k a.side a.instrument b.side b.instrument a.price b.price price
      (subst (λ (i : Instrument). implied_price n.side i a.side a.instrument b.side b.instrument a.price b.price ≡ Some
      price) is (priced on n a b price e.meets))
      ((All-contains IsNearFirst xs a near e.stands.0).near_before_far) at in
      record {
        is_on = sym (pair_takes_part n m k a.instrument is shape.of) ∙ part_of on n a b price e.meets;
        first = record { stands = e.stands.0; instrument_is = shape.of; side_is = shape.sided };
        second = record { stands = e.stands.1; instrument_is = shape.and; side_is = shape.and_on };
      }

  -- two orders of these queues have a price
  pub fronts_price : (n : Order) (m k : ℕ) (xs : List Order) (a b : Order) → n.instrument ≡ Outright m
      → IsPair on xs n.side m k a b → (q : ℤ) × (price_of on n (Implied a b) ≡ Some q)
  fronts_price n m k xs a b is p =
      let r = queues_meet n.side m k a.price b.price in (
        r.0,
        priced_again on n a b r.0 (pair_takes_part n m k a.instrument is p.first.instrument_is ∙ p.is_on)
            (rw (is, p.first.side_is, p.first.instrument_is, p.second.side_is, p.second.instrument_is) r.1),
      )

  pub price_costs : (n : Order) (m k : ℕ) (xs : List Order) (a b : Order) (price : ℤ) → IsPair on xs n.side m k a b
      → price_of on n (Implied a b) ≡ Some price → cost n.side price ≡ cost_of_pair n.side m k a b
  price_costs n m k xs a b price p e = pair_cost on n xs (spread_of m k) (spread_side n.side m k) (Outright k)
      (other_side n.side) a b price p.first p.second e

  -- ---- one other month more

  pub front_least : (xs : List Order) (side : Side) (m k : ℕ) (c : ℤ) (a b : Order) → HasFronts on xs side m k c
      → IsPair on xs side m k a b → c ≤ℤ cost_of_pair side m k a b
  front_least xs side m k c a b f p =
      pair_le c (cost_of_pair side m k a b) _ _ _ _ f.sum refl
      (front_best on xs (spread_of m k) (spread_side side m k) f.a a f.first p.first).0
      (front_best on xs (Outright k) (other_side side) f.b b f.second p.second).0

  pub none_cheapest : (xs : List Order) (side : Side) (m : ℕ) → IsCheapest on xs side m 0 None
  none_cheapest xs side m = record {
    fronts = tt;
    small = tt;
    below = tt;
    covers =
        λ other a b lt p. absurd (omega arith);
  }

  pub fresh : (xs : List Order) (side : Side) (m k : ℕ) (c : ℤ) (other : ℕ) (a b : Order) → HasFronts on xs side m k c
      → other ≡ k → IsPair on xs side m other a b →
      IsNoCheaper (record { cost = c; other_month = k }) (cost_of_pair side m other a b) other
  fresh xs side m k c other a b f same p = record {
    no_less = subst (λ (j : ℕ). c ≤ℤ cost_of_pair side m j a b) (sym same)
        (front_least xs side m k c a b f (subst (λ (j : ℕ). IsPair on xs side m j a b) same p));
    no_earlier = λ e. omega (arith, same);
  }

  one_more : (xs : List Order) (side : Side) (m k : ℕ) (held : PairCost) (c : ℤ) (b : Bool) → int_lt c held.cost ≡ b
      → IsCheapest on xs side m k (Some held) → HasFronts on xs side m k c → IsLegPrice c →
      IsCheapest on xs side m (k + 1) (cond b (Some (record { cost = c; other_month = k })) (Some held))
  one_more xs side m k held c true less h f small = record {
    fronts = f;
    small = small;
    below = omega arith;
    covers = λ other x y lt p. elim (less_or_same on other k lt) [
      | inl before ↦ (let old = h.covers other x y before p in let cheaper : c <ℤ held.cost =
          grind (arith, ints, less) in let above = old.no_less in record {
            no_less = omega (arith, ints, cheaper, above);
            no_earlier = λ e. absurd (omega (arith, ints, cheaper, above, e));
          })
      | inr same ↦ fresh xs side m k c other x y f same p
    ];
  }
  one_more xs side m k held c false less h f small = record {
    fronts = h.fronts;
    small = h.small;
    below = let at = h.below in omega (arith, at);
    covers = λ other x y lt p. elim (less_or_same on other k lt) [
      | inl before ↦ h.covers other x y before p
      | inr same ↦ (let new = fresh xs side m k c other x y f same p in let low = new.no_less in let at = h.below in
          let dearer : held.cost ≤ℤ c = grind (arith, ints, less) in record {
            no_less = omega (arith, ints, low, dearer);
            no_earlier = λ e. omega (arith, at, same);
          })
    ];
  }

  pub cheapest_more : (xs : List Order) (side : Side) (m k : ℕ) (least : Option PairCost) (c : Option ℤ)
      → IsCheapest on xs side m k least → CostsOfFronts on xs side m k c → IfSome c IsLegPrice →
      IsCheapest on xs side m (k + 1) (cheaper_of least c k)
  cheapest_more xs side m k None None h f small = record {
    fronts = tt;
    small = tt;
    below = tt;
    covers = λ other x y lt p. elim (less_or_same on other k lt) [
      | inl before ↦ h.covers other x y before p
      | inr same ↦ absurd (f x y (subst (λ (j : ℕ). IsPair on xs side m j x y) same p))
    ];
  }
  cheapest_more xs side m k (Some held) None h f small = record {
    fronts = h.fronts;
    small = h.small;
    below = let at = h.below in omega (arith, at);
    covers = λ other x y lt p. elim (less_or_same on other k lt) [
      | inl before ↦ h.covers other x y before p
      | inr same ↦ absurd (f x y (subst (λ (j : ℕ). IsPair on xs side m j x y) same p))
    ];
  }
  cheapest_more xs side m k None (Some c) h f small = record {
    fronts = f;
    small = small;
    below = omega arith;
    covers = λ other x y lt p. elim (less_or_same on other k lt) [
      | inl before ↦ absurd (h.covers other x y before p)
      | inr same ↦ fresh xs side m k c other x y f same p
    ];
  }
  cheapest_more xs side m k (Some held) (Some c) h f small =
      one_more xs side m k held c (int_lt c held.cost) refl h f small

  -- ---- who is beaten

  -- whom a pair of another month meets, the cheapest fronts meet too, and rank before it
  beaten_at : (n : Order) (xs : List Order) (m k : ℕ) (l : PairCost) (r : Option Candidate) (a b : Order) (price : ℤ)
      (same : Bool) → (k == l.other_month) ≡ same →
      n.instrument ≡ Outright m → HasFronts on xs n.side m l.other_month l.cost →
      CoversTwo on n xs (spread_of m l.other_month) (spread_side n.side m l.other_month) (Outright l.other_month)
      (other_side n.side) r →
      IsEligible on n xs (record { price = price; counterparty = Implied a b }) → month_of b.instrument ≡ k
      → IsPair on xs n.side m k a b → IsNoCheaper l (cost_of_pair n.side m k a b) k →
      Beats n r (record { price = price; counterparty = Implied a b })
  beaten_at n xs m k l r a b price true is_same is f covers e at p low =
      let here = subst (λ (j : ℕ). IsPair on xs n.side m j a b) (number_is k l.other_month is_same) p in
      covers a b price here.first here.second e
  beaten_at n xs m k l r a b price false is_other is f covers e at p low =
      let fronts : IsPair on xs n.side m l.other_month f.a f.b =
      record { is_on = f.is_on; first = f.first.0; second = f.second.0 } in
      let q = fronts_price n m l.other_month xs f.a f.b is fronts in
      let cost_q : cost n.side q.0 ≡ l.cost = price_costs n m l.other_month xs f.a f.b q.0 fronts q.1 ∙ sym f.sum in
      let cost_p : cost n.side price ≡ cost_of_pair n.side m k a b = price_costs n m k xs a b price p e.meets in
      let under = low.no_less in
      let less : cost n.side q.0 ≤ℤ cost n.side price = rw (cost_q, cost_p) under in
      let eligible : IsEligible on n xs (record { price = q.0; counterparty = Implied f.a f.b }) = record {
        stands = (f.first.0.stands, f.second.0.stands);
        meets = q.1;
        within = within_cost n.side n.price price q.0 e.within less;
      } in
      let held = covers f.a f.b q.0 f.first.0 f.second.0 eligible in
      let month_is : month_of f.b.instrument ≡ l.other_month = ap month_of f.second.0.instrument_is in
      beats_too n r (record { price = price; counterparty = Implied a b })
      (record { price = q.0; counterparty = Implied f.a f.b }) held
      (later (cost n.side price) (cost n.side q.0) (month_of b.instrument) (month_of f.b.instrument) a.place f.a.place
      b.place f.b.place less
      (λ same. (let order = low.no_earlier (sym cost_p ∙ (same ∙ cost_q)) in let differ : (k == l.other_month) ≡ false =
      is_other in grind (arith, nat_tests, order, differ, at, month_is))))

  pub cheapest_beats : (n : Order) (xs : List Order) (m months : ℕ) (l : PairCost) (r : Option Candidate)
      → n.instrument ≡ Outright m → All IsNearFirst xs → IsCheapest on xs n.side m months (Some l) →
      CoversTwo on n xs (spread_of m l.other_month) (spread_side n.side m l.other_month) (Outright l.other_month)
      (other_side n.side) r → CoversBelow on n xs months r
  cheapest_beats n xs m months l r is near c covers = λ a b price e lt.
      let k = month_of b.instrument in
      let p = eligible_pair n m k xs a b price is near e refl in
      beaten_at n xs m k l r a b price (k == l.other_month) refl is c.fronts covers e refl p (c.covers k a b lt p)

  -- ---- where no pair is within the limit

  pub none_beats : (n : Order) (xs : List Order) (m months : ℕ) (r : Option Candidate) → n.instrument ≡ Outright m
      → All IsNearFirst xs → IsCheapest on xs n.side m months None → CoversBelow on n xs months r
  none_beats n xs m months r is near c = λ a b price e lt.
      absurd (c.covers (month_of b.instrument) a b lt (eligible_pair n m (month_of b.instrument) xs a b price is near e
      refl))

  pub too_dear : (n : Order) (xs : List Order) (m months : ℕ) (l : PairCost) (r : Option Candidate)
      → n.instrument ≡ Outright m → All IsNearFirst xs → IsCheapest on xs n.side m months (Some l) →
      is_within_limit n.side n.price (cost n.side l.cost) ≡ false → CoversBelow on n xs months r
  too_dear n xs m months l r is near c beyond = λ a b price e lt.
      let k = month_of b.instrument in
      let p = eligible_pair n m k xs a b price is near e refl in
      let cost_p : cost n.side price ≡ cost_of_pair n.side m k a b = price_costs n m k xs a b price p e.meets in
      let low = (c.covers k a b lt p).no_less in
      let less : cost n.side (cost n.side l.cost) ≤ℤ cost n.side price = rw (cost_twice n.side l.cost, cost_p) low in
      let within : is_within_limit n.side n.price (cost n.side l.cost) ≡ true =
      within_cost n.side n.price price (cost n.side l.cost) e.within less in
      (let no : true ≡ false = sym within ∙ beyond in cc)

-- ---- what two levels cost together

pub level_small : (xs : List Order) (of : Instrument) (side : Side) (l : Level) → All HasOrderPrice xs
    → IsFrontLevel xs of side (Some l) → IsOrderPrice l.price
level_small xs of side l small h =
    let f = front_of_level xs of side l h in
    subst (λ (k : Level). IsOrderPrice k.price) f.1.stands (All-contains HasOrderPrice xs f.0 small f.1.front.0.stands)

-- where a front's level is known, what it costs is
pub level_costs : (xs : List Order) (of : Instrument) (side : Side) (l : Level) (paid : ℤ)
    → IsFrontLevel xs of side (Some l) → paid ≡ cost (other_side side) l.price → HasFront xs of side paid
level_costs xs of side l paid h e =
    let f = front_of_level xs of side l h in
    record {
      front = f.0;
      is = f.1.front;
      sum = e ∙ ap (λ (k : Level). cost (other_side side) k.price) (sym f.1.stands);
    }

pub fronts_cost : (on : Pairs) (xs : List Order) (side : Side) (m k : ℕ) (c d : ℤ) → is_pair_on on m k ≡ true
    → HasFront xs (spread_of m k) (spread_side side m k) c → HasFront xs (Outright k) (other_side side) d
    → HasFronts on xs side m k (c +ℤ d)
fronts_cost on xs side m k c d part f s = record {
  is_on = part;
  a = f.front;
  b = s.front;
  first = f.is;
  second = s.is;
  sum = ap (λ (v : ℤ). v +ℤ d) f.sum ∙ ap (λ (v : ℤ). cost (other_side (spread_side side m k)) f.front.price +ℤ v)
      s.sum;
}

-- ---- prices as they are passed

pub leg_is : (z : ℤ) → IsLegPrice z → to_z w64 (of_z w64 z) ≡ z
leg_is z h =
    let low = h.low in
    let high = h.high in
    let fits : FitsSigned w64 z = omega (arith, ints) in
    to_z-of_z w64 z fits

pub sum_passed : (x y r : ℤ) → IsOrderPrice x → IsOrderPrice y → r ≡ to_z w64 (of_z w64 x) +ℤ to_z w64 (of_z w64 y)
    → r ≡ x +ℤ y
sum_passed x y r h k e = e ∙ (ap (λ (v : ℤ). v +ℤ to_z w64 (of_z w64 y)) (order_is x h)
    ∙ ap (λ (v : ℤ). x +ℤ v) (order_is y k))

cost_leg : (s : Side) (c : ℤ) → IsLegPrice c → IsLegPrice (cost s c)
cost_leg Buy c h = h
cost_leg Sell c h = let low = h.low in let high = h.high in
    record { low = omega (arith, ints); high = omega (arith, ints) }

-- what is asked of a price that was passed is asked of the price
pub price_passed : (s : Side) (asked : ℤ → Bool) (c r : ℤ) (b : Bool) → IsLegPrice c
    → r ≡ cost s (to_z w64 (of_z w64 c)) → b ≡ asked (to_z w64 (of_z w64 r)) → b ≡ asked (cost s c)
price_passed s asked c r b h e k =
    let is : r ≡ cost s c = e ∙ ap (cost s) (leg_is c h) in
    k ∙ (ap (λ (v : ℤ). asked (to_z w64 (of_z w64 v))) is ∙ ap asked (leg_is (cost s c) (cost_leg s c h)))
