-- rows of what fronts cost, through the changes of a book
use Rattle.std.proofs.Common.{◌≡◌, ℕ, zero, suc, ◌*◌, ◌<◌, ◌≤◌, nat_lt, ℤ, Bool, true, false, cond, List, [], ◌∷◌, length, Option, Some, None, refl, sym, ap, ◌∙◌, subst, arith, inl, inr, slice_set, replicate}
use Rattle.std.proofs.lemmas.Bool.Decides.{nat_tests}
use Rattle.std.proofs.lemmas.List.{length-set, length-replicate}
use Rattle.spread_rules.specs.declared.order.Side.{Side}
use Rattle.spread_rules.specs.declared.order.Side.TheVariants.{Buy, Sell}
use Rattle.spread_rules_rulebook.specs.declared.instrument.Instrument.{Instrument}
use Rattle.spread_rules_rulebook.specs.declared.instrument.Instrument.TheVariants.{Outright, Spread}
use Rattle.spread_rules.specs.declared.order.Order.{Order}
use Rattle.spread_rules.specs.Candidates.{Pairs}
use Rattle.spread_rules.specs.Legs.{other_side}
use Rattle.spread_rules_rulebook.proofs.lists.Membership.{not_in_nil}
use Rattle.spread_books_plain.proofs.fronts.FoldGivesFront.{same_queue}
use Rattle.spread_books_plain.proofs.fronts.Slots.{get_set_other}
use Rattle.spread_books_plain.specs.Pairs.{spread_of, spread_side, is_pair_on}
use Rattle.spread_books_search.specs.code.Cheapest.{CostsOfFront, CostsOfFronts, KeepsCost}
use Rattle.spread_books_quotes.specs.code.QuoteTable.{ChangesOneQueue}
use Rattle.spread_books_quotes.specs.code.FrontCosts.{CostRows, AreFrontCosts, IsSpreadCost, cost_at, joined, row_cell, sum_of, pair_cost_in, spread_cost, outright_cost, with_outright_cost, with_spread_cost, set_if, no_costs}
use Rattle.spread_books_search.proofs.fronts.MonthPairs.{fronts_cost}
use Rattle.spread_books_quotes.proofs.quotes.QueueColumns.{no_outright, back}

-- ---- cells

cost_same : (xs : List (Option ℤ)) (n : ℕ) (c : Option ℤ) → n < length xs → cost_at (slice_set xs n c) n ≡ c
cost_same [] n c lt = absurd (omega (arith, lt))
cost_same (x ∷ xs) zero c lt = refl
cost_same (x ∷ xs) (suc n) c lt = cost_same xs n c (omega (arith, lt))

cost_other : (xs : List (Option ℤ)) (n m : ℕ) (c : Option ℤ) → (n ≡ m → ⊥) → cost_at (slice_set xs n c) m ≡ cost_at xs m
cost_other xs n m c other = ap joined (get_set_other xs n m c other)

-- two cells that are one are of one side and one pair of months
one_cell : (s t : Side) (m p k q : ℕ) → k < 24 → q < 24 → row_cell s m k ≡ row_cell t p q → (s ≡ t) × (m ≡ p) × (k ≡ q)
one_cell Buy Buy m p k q a b e = (refl, omega (arith, a, b, e), omega (arith, a, b, e))
one_cell Sell Sell m p k q a b e = (refl, omega (arith, a, b, e), omega (arith, a, b, e))
one_cell Buy Sell m p k q a b e = absurd (omega (arith, a, b, e))
one_cell Sell Buy m p k q a b e = absurd (omega (arith, a, b, e))

within : (s : Side) (months m k n : ℕ) → n ≡ months * 2 * 24 → m < months → k < 24 → row_cell s m k < n
within Buy months m k n e a b = omega (arith, e, a, b)
within Sell months m k n e a b = omega (arith, e, a, b)

within_first : (s : Side) (k n : ℕ) → n ≡ 2 * 24 → k < 24 → row_cell s 0 k < n
within_first Buy k n e b = omega (arith, e, b)
within_first Sell k n e b = omega (arith, e, b)

twice_other : (s : Side) → other_side (other_side s) ≡ s
twice_other Buy = refl
twice_other Sell = refl

-- ---- a pair's cost

pair_sum : (on : Pairs) (xs : List Order) (s : Side) (m k : ℕ) (c d : Option ℤ) (b : Bool) → is_pair_on on m k ≡ b
    → IsSpreadCost on xs s m k c → CostsOfFront xs (Outright k) (other_side s) d
    → CostsOfFronts on xs s m k (sum_of c d)
pair_sum on xs s m k None d b is h g = λ x y p. h.is_on p.is_on x p.first
pair_sum on xs s m k (Some u) None b is h g = λ x y p. g y p.second
pair_sum on xs s m k (Some u) (Some v) true is h g = fronts_cost on xs s m k u v is (h.is_on is) g
pair_sum on xs s m k (Some u) (Some v) false is h g = (let none = h.off is in cc)

-- what the rows tell of two queues is what their fronts together cost
pub pair_costs : (on : Pairs) (months : ℕ) (xs : List Order) (rows : CostRows) (s : Side) (m k : ℕ)
    → AreFrontCosts on months xs rows → m < months → k < months → CostsOfFronts on xs s m k (pair_cost_in rows s m k)
pair_costs on months xs rows s m k h a b = pair_sum on xs s m k (spread_cost rows s m k) (outright_cost rows s k)
    (is_pair_on on m k) refl (h.spreads s m k a b) (h.outrights s k b)

-- ---- no order

nothing_there : (n k : ℕ) → cost_at (replicate n None) k ≡ None
nothing_there zero k = refl
nothing_there (suc n) zero = refl
nothing_there (suc n) (suc k) = nothing_there n k

none_rests : (i : Instrument) (s : Side) (c : Option ℤ) → c ≡ None → CostsOfFront [] i s c
none_rests i s c is = subst (CostsOfFront [] i s) (sym is) (λ o r. not_in_nil o r.stands)

pub empty_costs : (on : Pairs) (months : ℕ) → AreFrontCosts on months [] (no_costs months)
empty_costs on months = record {
  spread_count = length-replicate {A = Option ℤ} (months * 2 * 24) None;
  outright_count = length-replicate {A = Option ℤ} (2 * 24) None;
  spreads = λ s m k a b. record {
    is_on = λ e. none_rests (spread_of m k) (spread_side s m k) (spread_cost (no_costs months) s m k)
        (nothing_there (months * 2 * 24) (row_cell s m k));
    off = λ e. nothing_there (months * 2 * 24) (row_cell s m k);
  };
  outrights = λ s k b. none_rests (Outright k) (other_side s) (outright_cost (no_costs months) s k)
      (nothing_there (2 * 24) (row_cell s 0 k));
}

-- ---- after a change

-- which pair a spread is of
pair_is : (on : Pairs) (near far m k : ℕ) (b : Bool) → Spread near far ≡ cond b (Spread m k) (Spread k m)
    → cond b (on m k) (on k m) ≡ on near far
pair_is on near far m k true e = cc
pair_is on near far m k false e = cc

module _ (on : Pairs) (months : ℕ) (most : months ≤ 24) (xs ys : List Order) where
  still_cost : (u : Side) (m k : ℕ) (c : Option ℤ) → KeepsCost xs ys (spread_of m k) (spread_side u m k)
      → IsSpreadCost on xs u m k c → IsSpreadCost on ys u m k c
  still_cost u m k c keep h = record { is_on = λ e. keep c (h.is_on e); off = h.off }

  -- where each front costs what it did
  pub kept_costs : (rows : CostRows) → ((j : Instrument) (t : Side) → KeepsCost xs ys j t)
      → AreFrontCosts on months xs rows → AreFrontCosts on months ys rows
  kept_costs rows keep h = record {
    spread_count = h.spread_count;
    outright_count = h.outright_count;
    spreads = λ u m k a b. still_cost u m k (spread_cost rows u m k) (keep (spread_of m k) (spread_side u m k))
        (h.spreads u m k a b);
    outrights = λ u k b. keep (Outright k) (other_side u) (outright_cost rows u k) (h.outrights u k b);
  }

  -- ---- of the outrights of one month

  module _ (rows : CostRows) (via : ℕ) (s : Side) (c : Option ℤ) (below : via < months)
      (one : ChangesOneQueue xs ys (Outright via) s) (h : AreFrontCosts on months xs rows) where
    noted_there : (u : Side) (k : ℕ) → k ≡ via → u ≡ other_side s
        → outright_cost (with_outright_cost rows s via c) u k ≡ c
    noted_there u k at side =
        subst (λ (t : Side). outright_cost (with_outright_cost rows s via c) t k ≡ c) (sym side)
        (subst (λ (j : ℕ). outright_cost (with_outright_cost rows s via c) (other_side s) j ≡ c) (sym at)
        (cost_same rows.outrights (row_cell (other_side s) 0 via) c
        (within_first (other_side s) via (length rows.outrights) h.outright_count (omega (arith, below, most)))))

    not_noted : (u : Side) (k : ℕ) → k < months → ((Outright via ≡ Outright k) × (s ≡ other_side u) → ⊥)
        → outright_cost (with_outright_cost rows s via c) u k ≡ outright_cost rows u k
    not_noted u k lt other =
        cost_other rows.outrights (row_cell (other_side s) 0 via) (row_cell u 0 k) c (λ e.
        let q = one_cell (other_side s) u 0 0 via k (omega (arith, below, most)) (omega (arith, lt, most)) e in
        other (ap Outright q.2, sym (twice_other s) ∙ ap other_side q.0))

    pub outright_noted : CostsOfFront ys (Outright via) s c
        → AreFrontCosts on months ys (with_outright_cost rows s via c)
    outright_noted own = record {
      spread_count = h.spread_count;
      outright_count = length-set rows.outrights (row_cell (other_side s) 0 via) c ∙ h.outright_count;
      spreads = λ u m k a b. still_cost u m k (spread_cost rows u m k)
          (one (spread_of m k) (spread_side u m k) (λ e. no_outright via m k (nat_lt m k) e.0)) (h.spreads u m k a b);
      outrights = λ u k b. elim (same_queue (Outright via) (Outright k) s (other_side u)) [
        | inl e ↦
            let at : k ≡ via = (let i = e.0 in cc) in
            subst (CostsOfFront ys (Outright k) (other_side u)) (sym (noted_there u k at (back s u e.1)))
            (subst (λ (i : Instrument). CostsOfFront ys i (other_side u) c) e.0
            (subst (λ (t : Side). CostsOfFront ys (Outright via) t c) e.1 own))
        | inr n ↦
            subst (CostsOfFront ys (Outright k) (other_side u)) (sym (not_noted u k b n))
            (one (Outright k) (other_side u) n (outright_cost rows u k) (h.outrights u k b))
      ];
    }

  -- ---- of the spreads of two months

  module _ (rows : CostRows) (near far : ℕ) (s : Side) (c : Option ℤ) (below : far < months)
      (one : ChangesOneQueue xs ys (Spread near far) s) (h : AreFrontCosts on months xs rows) where
    abbrev first : List (Option ℤ)
    first = set_if (nat_lt near far) rows.spreads (row_cell (other_side s) near far) c

    length_first : (b : Bool) → length (set_if b rows.spreads (row_cell (other_side s) near far) c) ≡ length
        rows.spreads
    length_first true = length-set rows.spreads (row_cell (other_side s) near far) c
    length_first false = refl

    length_both : (b : Bool) → length (cond b first (slice_set first (row_cell s far near) c)) ≡ months * 2 * 24
    length_both true = length_first (nat_lt near far) ∙ h.spread_count
    length_both false = length-set first (row_cell s far near) c ∙ (length_first (nat_lt near far) ∙ h.spread_count)

    at_far : nat_lt far near ≡ false → spread_cost (with_spread_cost rows s near far c) s far near ≡ c
    at_far order =
        rw order (cost_same first (row_cell s far near) c
        (within s months far near (length first) (length_first (nat_lt near far) ∙ h.spread_count) below
        (let no_less : near ≤ far = grind (arith, nat_tests, order) in omega (arith, no_less, below, most))))

    at_near : nat_lt near far ≡ true → spread_cost (with_spread_cost rows s near far c) (other_side s) near far ≡ c
    at_near order =
        let less : near < far = grind (arith, nat_tests, order) in
        let not_more : nat_lt far near ≡ false = grind (arith, nat_tests, less) in
        rw (not_more, order)
        (cost_other (slice_set rows.spreads (row_cell (other_side s) near far) c) (row_cell s far near)
        (row_cell (other_side s) near far) c
        (λ e. let q = one_cell s (other_side s) far near near far (omega (arith, less, below, most))
        (omega (arith, below, most)) e in let at = q.1 in omega (arith, less, at))
        ∙ cost_same rows.spreads (row_cell (other_side s) near far) c
        (within (other_side s) months near far (length rows.spreads) h.spread_count (omega (arith, less, below))
        (omega (arith, below, most))))

    noted_spread : (u : Side) (m k : ℕ) (b : Bool) → nat_lt m k ≡ b → Spread near far ≡ cond b (Spread m k) (Spread k m)
        → s ≡ cond b (other_side u) u → spread_cost (with_spread_cost rows s near far c) u m k ≡ c
    noted_spread u m k true order is side =
        let i : near ≡ m = cc in
        let j : far ≡ k = cc in
        let t : other_side s ≡ u = ap other_side side ∙ twice_other u in
        subst (λ (v : Side). spread_cost (with_spread_cost rows s near far c) v m k ≡ c) t
        (subst (λ (p : ℕ). spread_cost (with_spread_cost rows s near far c) (other_side s) p k ≡ c) i
        (subst (λ (q : ℕ). spread_cost (with_spread_cost rows s near far c) (other_side s) near q ≡ c) j
        (at_near (subst (λ (q : ℕ). nat_lt near q ≡ true) (sym j)
        (subst (λ (p : ℕ). nat_lt p k ≡ true) (sym i) order)))))
    noted_spread u m k false order is side =
        let i : far ≡ m = cc in
        let j : near ≡ k = cc in
        subst (λ (v : Side). spread_cost (with_spread_cost rows s near far c) v m k ≡ c) side
        (subst (λ (p : ℕ). spread_cost (with_spread_cost rows s near far c) s p k ≡ c) i
        (subst (λ (q : ℕ). spread_cost (with_spread_cost rows s near far c) s far q ≡ c) j
        (at_far (subst (λ (q : ℕ). nat_lt far q ≡ false) (sym j)
        (subst (λ (p : ℕ). nat_lt p k ≡ false) (sym i) order)))))

    -- the queue of a cell that is set is the one that changed
    is_near : (u : Side) (m k : ℕ) → nat_lt near far ≡ true → k < months
        → row_cell (other_side s) near far ≡ row_cell u m k → (Spread near far ≡ spread_of m k)
        × (s ≡ spread_side u m k)
    is_near u m k order lt e =
        let q = one_cell (other_side s) u near m far k (omega (arith, below, most)) (omega (arith, lt, most)) e in
        let here : (Spread near far ≡ spread_of near far) × (s ≡ spread_side (other_side s) near far) =
        (rw order refl, rw order (sym (twice_other s))) in
        subst (λ (v : Side). (Spread near far ≡ spread_of m k) × (s ≡ spread_side v m k)) q.0
        (subst (λ (p : ℕ). (Spread near far ≡ spread_of p k) × (s ≡ spread_side (other_side s) p k)) q.1
        (subst (λ (r : ℕ). (Spread near far ≡ spread_of near r) × (s ≡ spread_side (other_side s) near r)) q.2 here))

    is_far : (u : Side) (m k : ℕ) → nat_lt far near ≡ false → k < months → row_cell s far near ≡ row_cell u m k
        → (Spread near far ≡ spread_of m k) × (s ≡ spread_side u m k)
    is_far u m k order lt e =
        let no_less : near ≤ far = grind (arith, nat_tests, order) in
        let q = one_cell s u far m near k (omega (arith, no_less, below, most)) (omega (arith, lt, most)) e in
        let here : (Spread near far ≡ spread_of far near) × (s ≡ spread_side s far near) =
        (rw order refl, rw order refl) in
        subst (λ (v : Side). (Spread near far ≡ spread_of m k) × (s ≡ spread_side v m k)) q.0
        (subst (λ (p : ℕ). (Spread near far ≡ spread_of p k) × (s ≡ spread_side s p k)) q.1
        (subst (λ (r : ℕ). (Spread near far ≡ spread_of far r) × (s ≡ spread_side s far r)) q.2 here))

    module _ (u : Side) (m k : ℕ) (lt : k < months) (other : (Spread near far ≡ spread_of m k) × (s ≡ spread_side u m k)
        → ⊥) where
      not_first : (b : Bool) → nat_lt near far ≡ b → cost_at
          (set_if b rows.spreads (row_cell (other_side s) near far) c) (row_cell u m k) ≡ spread_cost rows u m k
      not_first true order = cost_other rows.spreads (row_cell (other_side s) near far) (row_cell u m k) c
          (λ e. other (is_near u m k order lt e))
      not_first false order = refl

      not_second : (b : Bool) → nat_lt far near ≡ b → cost_at (cond b first (slice_set first (row_cell s far near) c))
          (row_cell u m k) ≡ spread_cost rows u m k
      not_second true order = not_first (nat_lt near far) refl
      not_second false order = cost_other first (row_cell s far near) (row_cell u m k) c
          (λ e. other (is_far u m k order lt e)) ∙ not_first (nat_lt near far) refl

    -- whether the pair of its months takes part
    on_at : (m k : ℕ) (b : Bool) → nat_lt m k ≡ b → Spread near far ≡ cond b (Spread m k) (Spread k m)
        → nat_lt far near ≡ false
    on_at m k true order is = let i : near ≡ m = cc in let j : far ≡ k = cc in grind (arith, nat_tests, order, i, j)
    on_at m k false order is = let i : far ≡ m = cc in let j : near ≡ k = cc in grind (arith, nat_tests, order, i, j)

    same_pair : (m k : ℕ) (b : Bool) → is_pair_on on far near ≡ b → Spread near far ≡ spread_of m k
        → is_pair_on on m k ≡ b
    same_pair m k b part is =
        let order = on_at m k (nat_lt m k) refl is in
        pair_is on near far m k (nat_lt m k) is ∙ (sym (rw order refl) ∙ part)

    pub spread_noted : is_pair_on on far near ≡ true → CostsOfFront ys (Spread near far) s c
        → AreFrontCosts on months ys (with_spread_cost rows s near far c)
    spread_noted part own = record {
      spread_count = length_both (nat_lt far near);
      outright_count = h.outright_count;
      spreads = λ u m k a b. elim (same_queue (Spread near far) (spread_of m k) s (spread_side u m k)) [
        | inl e ↦
            subst (IsSpreadCost on ys u m k) (sym (noted_spread u m k (nat_lt m k) refl e.0 e.1))
            (record {
              is_on = λ i. subst (λ (j : Instrument). CostsOfFront ys j (spread_side u m k) c) e.0
                  (subst (λ (t : Side). CostsOfFront ys (Spread near far) t c) e.1 own);
              off = λ i. absurd (let no : true ≡ false = sym (same_pair m k true part e.0) ∙ i in cc);
            })
        | inr n ↦
            subst (IsSpreadCost on ys u m k) (sym (not_second u m k b n (nat_lt far near) refl))
            (still_cost u m k (spread_cost rows u m k) (one (spread_of m k) (spread_side u m k) n)
            (h.spreads u m k a b))
      ];
      outrights = λ u k b. one (Outright k) (other_side u) (λ e. let i = e.0 in cc) (outright_cost rows u k)
          (h.outrights u k b);
    }

    pub spread_off : is_pair_on on far near ≡ false → AreFrontCosts on months ys rows
    spread_off part = record {
      spread_count = h.spread_count;
      outright_count = h.outright_count;
      spreads = λ u m k a b. elim (same_queue (Spread near far) (spread_of m k) s (spread_side u m k)) [
        | inl e ↦ record {
          is_on = λ i. absurd (let no : true ≡ false = sym i ∙ same_pair m k false part e.0 in cc);
          off = (h.spreads u m k a b).off;
        }
        | inr n ↦ still_cost u m k (spread_cost rows u m k) (one (spread_of m k) (spread_side u m k) n)
            (h.spreads u m k a b)
      ];
      outrights = λ u k b. one (Outright k) (other_side u) (λ e. let i = e.0 in cc) (outright_cost rows u k)
          (h.outrights u k b);
    }
