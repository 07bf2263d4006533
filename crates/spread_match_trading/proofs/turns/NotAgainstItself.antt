-- the new order is never a candidate against itself, and stays as it was added while the others trade
use Rattle.std.proofs.Common.{◌≡◌, ◌≢◌, ℕ, ◌==◌, ◌-◌, ℤ, Bool, true, false, not, cond, List, [], ◌∷◌, ◌++◌, map, Option, Some, None, inl, inr, refl, subst, sym, ap, ◌∙◌}
use Rattle.std.proofs.lemmas.Bool.{and_parts}
use Rattle.std.proofs.lemmas.List.Elements.{Contains-push_cases, Contains-append_left, filter-append}
use Rattle.spread_rules.specs.declared.order.Side.{Side}
use Rattle.spread_rules.specs.declared.order.Side.TheVariants.{Buy, Sell}
use Rattle.spread_rules_rulebook.specs.declared.instrument.Instrument.{Instrument}
use Rattle.spread_rules_rulebook.specs.declared.instrument.Instrument.TheVariants.{Outright, Spread}
use Rattle.spread_rules.specs.declared.order.Order.{Order}
use Rattle.spread_rules.specs.declared.candidate.Candidate.{Candidate}
use Rattle.spread_rules.specs.declared.candidate.Counterparty.{Counterparty}
use Rattle.spread_rules.specs.declared.candidate.Counterparty.TheVariants.{Direct, Implied}
use Rattle.spread_rules.specs.code.Cases.{with_less_left}
use Rattle.spread_rules.specs.Candidates.{price_of, IsEligible, AllStandIn, PlacesDiffer, IsBest, Pairs}
use Rattle.spread_rules.specs.code.Candidates.{implied_price, are_opposite}
use Rattle.spread_rules.specs.Clearing.{removed, reduced}
use Rattle.spread_match_trading.specs.code.Turns.{AreApart}
use Rattle.spread_rules.proofs.clearings.BoughtIsSold.{so_true}
use Rattle.spread_rules.proofs.ranks.PairsSwitched.{priced}
use Rattle.spread_match_trading.proofs.turns.StaysAfterAFill.{other_place}

not_first : (s : Side) (I : Instrument) (sb : Side) (B : Instrument) (x y p : ℤ)
    → implied_price s I s I sb B x y ≡ Some p → ⊥
not_first Buy (Outright m) sb B x y p h = cc
not_first Buy (Spread i j) sb B x y p h = cc
not_first Sell (Outright m) sb B x y p h = cc
not_first Sell (Spread i j) sb B x y p h = cc

not_second : (s : Side) (I : Instrument) (sa : Side) (A : Instrument) (x y p : ℤ)
    → implied_price s I sa A s I x y ≡ Some p → ⊥
not_second Buy (Outright m) Buy (Outright u) x y p h = cc
not_second Buy (Outright m) Buy (Spread u v) x y p h = cc
not_second Buy (Outright m) Sell (Outright u) x y p h = cc
not_second Buy (Outright m) Sell (Spread u v) x y p h = cc
not_second Buy (Spread i j) Buy (Outright u) x y p h = cc
not_second Buy (Spread i j) Buy (Spread u v) x y p h = cc
not_second Buy (Spread i j) Sell (Outright u) x y p h = cc
not_second Buy (Spread i j) Sell (Spread u v) x y p h = cc
not_second Sell (Outright m) Buy (Outright u) x y p h = cc
not_second Sell (Outright m) Buy (Spread u v) x y p h = cc
not_second Sell (Outright m) Sell (Outright u) x y p h = cc
not_second Sell (Outright m) Sell (Spread u v) x y p h = cc
not_second Sell (Spread i j) Buy (Outright u) x y p h = cc
not_second Sell (Spread i j) Buy (Spread u v) x y p h = cc
not_second Sell (Spread i j) Sell (Outright u) x y p h = cc
not_second Sell (Spread i j) Sell (Spread u v) x y p h = cc

-- the two of a pair are of two queues
not_both : (s : Side) (I : Instrument) (sa : Side) (A : Instrument) (x y p : ℤ)
    → implied_price s I sa A sa A x y ≡ Some p → ⊥
not_both Buy (Outright m) Buy (Outright u) x y p h = cc
not_both Buy (Outright m) Buy (Spread u v) x y p h = cc
not_both Buy (Outright m) Sell (Outright u) x y p h = cc
not_both Buy (Outright m) Sell (Spread u v) x y p h = cc
not_both Buy (Spread i j) Buy (Outright u) x y p h = cc
not_both Buy (Spread i j) Buy (Spread u v) x y p h = cc
not_both Buy (Spread i j) Sell (Outright u) x y p h = cc
not_both Buy (Spread i j) Sell (Spread u v) x y p h = cc
not_both Sell (Outright m) Buy (Outright u) x y p h = cc
not_both Sell (Outright m) Buy (Spread u v) x y p h = cc
not_both Sell (Outright m) Sell (Outright u) x y p h = cc
not_both Sell (Outright m) Sell (Spread u v) x y p h = cc
not_both Sell (Spread i j) Buy (Outright u) x y p h = cc
not_both Sell (Spread i j) Buy (Spread u v) x y p h = cc
not_both Sell (Spread i j) Sell (Outright u) x y p h = cc
not_both Sell (Spread i j) Sell (Spread u v) x y p h = cc

not_opposite : (s : Side) → are_opposite s s ≡ true → ⊥
not_opposite Buy h = cc
not_opposite Sell h = cc

-- of the instrument and side of the new order
pub record IsLike (n own : Order) : Type 0 where
  pub instrument : own.instrument ≡ n.instrument
  pub side : own.side ≡ n.side

with_own : (own : Order) (xs : List Order) (p : Counterparty) → AllStandIn xs p → AllStandIn (xs ++ own ∷ []) p
with_own own xs (Direct o) c = Contains-append_left xs (own ∷ []) o c
with_own own xs (Implied a b) c = (Contains-append_left xs (own ∷ []) a c.0, Contains-append_left xs (own ∷ []) b c.1)

-- ---- the new order stays

pub map_push : (f : Order → Order) (xs : List Order) (y : Order) → map f (xs ++ y ∷ []) ≡ map f xs ++ f y ∷ []
map_push f [] y = refl
map_push f (x ∷ xs) y = ap (λ (ys : List Order). f x ∷ ys) (map_push f xs y)

pub fill_own : (q : ℕ) (xs : List Order) (m own : Order) (b : Bool) → own.place ≢ m.place →
    cond b (removed m.place (xs ++ own ∷ [])) (reduced m.place q (xs ++ own ∷ [])) ≡ cond b (removed m.place xs)
    (reduced m.place q xs) ++ own ∷ []
fill_own q xs m own true h =
    let e = other_place m.place own.place h in
    filter-append (λ (o : Order). not (o.place == m.place)) xs (own ∷ [])
    ∙ ap (λ (t : Bool). removed m.place xs ++ cond (not t) (own ∷ []) []) e
fill_own q xs m own false h =
    let e = other_place m.place own.place h in
    map_push (with_less_left m.place q) xs own ∙ ap (λ (t : Bool). reduced m.place q xs
    ++ cond t (record own { leaves = own.leaves - q }) own ∷ []) e

module _ (on : Pairs) where
  -- own is in no candidate
  pub own_single : (n own o : Order) (p : ℤ) → IsLike n own → own ≡ o → price_of on n (Direct o) ≡ Some p → ⊥
  own_single n own o p l e h =
      let t = (and_parts _ _ (so_true _ _ p h)).1 in
      let s : o.side ≡ n.side = sym (ap (λ (w : Order). w.side) e) ∙ l.side in
      not_opposite n.side (subst (λ (x : Side). are_opposite n.side x ≡ true) s t)

  pub own_first : (n own a b : Order) (p : ℤ) → IsLike n own → own ≡ a → price_of on n (Implied a b) ≡ Some p → ⊥
  own_first n own a b p l e h =
      let s : a.side ≡ n.side = sym (ap (λ (w : Order). w.side) e) ∙ l.side in
      let i : a.instrument ≡ n.instrument = sym (ap (λ (w : Order). w.instrument) e) ∙ l.instrument in
      not_first n.side n.instrument b.side b.instrument a.price b.price p
      (subst (λ (x : Side). implied_price n.side n.instrument x n.instrument b.side b.instrument a.price b.price ≡ Some
      p) s
      (subst (λ (x : Instrument). implied_price n.side n.instrument a.side x b.side b.instrument a.price b.price ≡ Some
      p) i (priced on n a b p h)))

  pub own_second : (n own a b : Order) (p : ℤ) → IsLike n own → own ≡ b → price_of on n (Implied a b) ≡ Some p → ⊥
  own_second n own a b p l e h =
      let s : b.side ≡ n.side = sym (ap (λ (w : Order). w.side) e) ∙ l.side in
      let i : b.instrument ≡ n.instrument = sym (ap (λ (w : Order). w.instrument) e) ∙ l.instrument in
      not_second n.side n.instrument a.side a.instrument a.price b.price p
      (subst (λ (x : Side). implied_price n.side n.instrument a.side a.instrument x n.instrument a.price b.price ≡ Some
      p) s
      (subst (λ (x : Instrument). implied_price n.side n.instrument a.side a.instrument b.side x a.price b.price ≡ Some
      p) i (priced on n a b p h)))

  -- whoever is a candidate is one of the others
  among_others : (n own : Order) (xs : List Order) (p : Counterparty) (price : ℤ) → IsLike n own
      → price_of on n p ≡ Some price → AllStandIn (xs ++ own ∷ []) p → AllStandIn xs p
  among_others n own xs (Direct o) price l h c = elim (Contains-push_cases xs own o c)
      [ inl d ↦ d | inr e ↦ absurd (own_single n own o price l e h) ]
  among_others n own xs (Implied a b) price l h c = (
    elim (Contains-push_cases xs own a c.0) [ inl d ↦ d | inr e ↦ absurd (own_first n own a b price l e h) ],
    elim (Contains-push_cases xs own b c.1) [ inl d ↦ d | inr e ↦ absurd (own_second n own a b price l e h) ],
  )

  wider : (n own : Order) (xs : List Order) (q : Candidate) → IsEligible on n xs q → IsEligible on n (xs ++ own ∷ []) q
  wider n own xs q e = record { stands = with_own own xs q.counterparty e.stands; meets = e.meets; within = e.within }

  narrower : (n own : Order) (xs : List Order) (q : Candidate) → IsLike n own → IsEligible on n (xs ++ own ∷ []) q
      → IsEligible on n xs q
  narrower n own xs q l e = record {
    stands = among_others n own xs q.counterparty q.price l e.meets e.stands;
    meets =
        e.meets;
    within = e.within;
  }

  -- the search over the book finds what a search without the new order finds
  pub best_of_others : (n own : Order) (xs : List Order) (r : Option Candidate) → IsLike n own
      → IsBest on n (xs ++ own ∷ []) r → IsBest on n xs r
  best_of_others n own xs None l h = λ q e. h q (wider n own xs q e)
  best_of_others n own xs (Some o) l h = record {
    eligible = narrower n own xs o l h.eligible;
    least =
        λ q e. h.least q (wider n own xs q e);
  }

  pub are_apart : (n : Order) (xs : List Order) (p : Counterparty) (price : ℤ) → PlacesDiffer xs → AllStandIn xs p
      → price_of on n p ≡ Some price → AreApart p
  are_apart n xs (Direct o) price d c h = tt
  are_apart n xs (Implied a b) price d c h = λ e.
      let same = d a b c.0 c.1 e in
      not_both n.side n.instrument a.side a.instrument a.price b.price price
      (subst (λ (o : Order). implied_price n.side n.instrument a.side a.instrument o.side o.instrument a.price b.price ≡
      Some price) (sym same) (priced on n a b price h))
