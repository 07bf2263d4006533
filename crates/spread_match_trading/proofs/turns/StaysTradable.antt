-- what a turn keeps
use Rattle.std.proofs.Common.{◌≡◌, ℕ, zero, suc, ◌==◌, ◌-◌, ◌<◌, ◌≤◌, ℤ, Bool, true, false, not, cond, List, [], ◌∷◌, ◌++◌, fold, length, get_or, Contains, All, Option, Some, None, refl, subst, sym, ap, ◌∙◌, arith}
use Rattle.std.proofs.lemmas.Bool.Decides.{nat_tests}
use Rattle.std.proofs.lemmas.List.Elements.{Contains-push, Contains-append_left, Contains-get_or, All-filter, All-map, All-weaker}
use Rattle.spread_rules.specs.declared.order.Order.{Order}
use Rattle.spread_rules.specs.declared.candidate.Candidate.{Candidate}
use Rattle.spread_rules.specs.declared.candidate.Counterparty.{Counterparty}
use Rattle.spread_rules.specs.declared.candidate.Counterparty.TheVariants.{Direct, Implied}
use Rattle.spread_rules.specs.code.Cases.{with_less_left}
use Rattle.spread_rules.specs.Candidates.{price_of, AllStandIn, least_left, Pairs, PlacesDiffer, IsBest, members}
use Rattle.spread_rules.specs.code.Candidates.{least_candidate, counterparties, HasOrderPrice}
use Rattle.spread_rules.specs.Clearing.{Trading, clear, after_fill, removed, reduced}
use Rattle.spread_rules.specs.code.Clearing.{next_candidate, turn, turns, begin}
use Rattle.spread_rules.proofs.ranks.LeastIsOne.{best_is_first}
use Rattle.spread_rules.proofs.clearings.ClearIsTurns.{clear_is}
use Rattle.spread_rules.proofs.clearings.TurnsEnd.{enough, one_end, keeps_turns}
use Rattle.spread_books_search.specs.Listed.{IsNearFirst, IsInMonths}
use Rattle.spread_match_trading.specs.Tradable.{IsTradable}
use Rattle.spread_match_trading.specs.code.Turns.{AreApart, HaveLeft}
use Rattle.spread_match_trading.proofs.turns.StaysAfterAFill.{still_there, still_differ}
use Rattle.spread_match_trading.proofs.turns.NotAgainstItself.{IsLike, fill_own, own_single, own_first, own_second}

-- ---- facts that don't read what is left

less_has : (P : Order → Type 0) (place by : ℕ) (o : Order) (b : Bool) → P o → P (record o { leaves = o.leaves - by })
    → P (cond b (record o { leaves = o.leaves - by }) o)
less_has P place by o true h k = k
less_has P place by o false h k = h

pub fill_all : (P : Order → Type 0) → ((o : Order) (k : ℕ) → P o → P (record o { leaves = k }))
    → (q : ℕ) (xs : List Order) (m : Order) (b : Bool) → All P xs
    → All P (cond b (removed m.place xs) (reduced m.place q xs))
fill_all P on q xs m true h = All-filter (λ (o : Order). not (o.place == m.place)) P xs h
fill_all P on q xs m false h = All-map P (with_less_left m.place q) xs
    (All-weaker P (λ (o : Order). P (with_less_left m.place q o))
    (λ o p. less_has P m.place q o (o.place == m.place) p (on o (o.leaves - q) p)) xs h)

pub members_all : (P : Order → Type 0) → ((o : Order) (k : ℕ) → P o → P (record o { leaves = k }))
    → (q : ℕ) (xs : List Order) (p : Counterparty) → All P xs → All P (fold (after_fill q) xs (members p))
members_all P on q xs (Direct o) h = fill_all P on q xs o (o.leaves == q) h
members_all P on q xs (Implied a b) h = fill_all P on q (after_fill q xs a) b (b.leaves == q)
    (fill_all P on q xs a (a.leaves == q) h)

-- ---- something is left of each

less_left : (q : ℕ) (o : Order) (b : Bool) → 0 < o.leaves → (b ≡ true → q < o.leaves)
    → 0 < (cond b (record o { leaves = o.leaves - q }) o).leaves
less_left q o true h k = let l = k refl in omega arith
less_left q o false h k = h

number_is : (m k : ℕ) → (m == k) ≡ true → m ≡ k
number_is m k h = grind (arith, nat_tests)

more_left : (q : ℕ) (m : Order) → q ≤ m.leaves → (m.leaves == q) ≡ false → q < m.leaves
more_left q m h e = grind (arith, nat_tests)

fill_left : (q : ℕ) (xs : List Order) (m : Order) (b : Bool) → (m.leaves == q) ≡ b → PlacesDiffer xs → Contains xs m
    → q ≤ m.leaves → All (λ o. 0 < o.leaves) xs → All (λ o. 0 < o.leaves)
    (cond b (removed m.place xs) (reduced m.place q xs))
fill_left q xs m true e d c l h = All-filter (λ (o : Order). not (o.place == m.place)) (λ (o : Order). 0 < o.leaves) xs
    h
fill_left q xs m false e d c l h =
    All-map (λ (o : Order). 0 < o.leaves) (with_less_left m.place q) xs
    (λ k z lt. less_left q (get_or xs k z) ((get_or xs k z).place == m.place) (h k z lt)
    (λ s. let same : get_or xs k z ≡ m = d (get_or xs k z) m (Contains-get_or xs k z lt) c (number_is _ _ s) in
    subst (λ (o : Order). q < o.leaves) (sym same) (more_left q m l e)))

members_left : (q : ℕ) (xs : List Order) (p : Counterparty) → PlacesDiffer xs → AllStandIn xs p → AreApart p
    → HaveLeft q p → All (λ o. 0 < o.leaves) xs → All (λ o. 0 < o.leaves) (fold (after_fill q) xs (members p))
members_left q xs (Direct o) d c a w h = fill_left q xs o (o.leaves == q) refl d c w h
members_left q xs (Implied x y) d c a w h =
    fill_left q (after_fill q xs x) y (y.leaves == q) refl (still_differ q xs x (x.leaves == q) d)
    (still_there q xs x y (x.leaves == q) a c.1) w.1
    (fill_left q xs x (x.leaves == q) refl d c.0 w.0 h)

pub members_differ : (q : ℕ) (xs : List Order) (p : Counterparty) → PlacesDiffer xs
    → PlacesDiffer (fold (after_fill q) xs (members p))
members_differ q xs (Direct o) d = still_differ q xs o (o.leaves == q) d
members_differ q xs (Implied x y) d = still_differ q (after_fill q xs x) y (y.leaves == q)
    (still_differ q xs x (x.leaves == q) d)

least_within : (n : Order) (p : Counterparty) → HaveLeft (least_left n p) p
least_within n (Direct o) = omega arith
least_within n (Implied a b) = (omega arith, omega arith)

pub still_tradable : (months : ℕ) (n : Order) (xs : List Order) (p : Counterparty) → IsTradable months xs
    → AllStandIn xs p → AreApart p → IsTradable months (fold (after_fill (least_left n p)) xs (members p))
still_tradable months n xs p t c a = record {
  small = members_all HasOrderPrice (λ o k h. record { low = h.low; high = h.high }) (least_left n p) xs p t.small;
  listed = members_all IsNearFirst (λ o k h. record { near_before_far = h.near_before_far }) (least_left n p) xs p
      t.listed;
  within = members_all (λ (o : Order). IsInMonths months o.instrument) (λ o k h. h) (least_left n p) xs p t.within;
  places = members_differ (least_left n p) xs p t.places;
  left = members_left (least_left n p) xs p t.places c a (least_within n p) t.left;
}

pub fewer_differ : (own : Order) (xs : List Order) → PlacesDiffer (xs ++ own ∷ []) → PlacesDiffer xs
fewer_differ own xs d = λ a b ca cb e. d a b (Contains-append_left xs (own ∷ []) a ca)
    (Contains-append_left xs (own ∷ []) b cb) e

module _ (on : Pairs) where
  -- ---- the new order stays as it was added

  members_own : (n own : Order) (q : ℕ) (xs : List Order) (p : Counterparty) (price : ℤ) → IsLike n own
      → PlacesDiffer (xs ++ own ∷ []) → price_of on n p ≡ Some price → AllStandIn xs p →
      fold (after_fill q) (xs ++ own ∷ []) (members p) ≡ fold (after_fill q) xs (members p) ++ own ∷ []
  members_own n own q xs (Direct o) price l d h c =
      fill_own q xs o own (o.leaves == q) (λ e. own_single on n own o price l
      (d own o (Contains-push xs own) (Contains-append_left xs (own ∷ []) o c) e) h)
  members_own n own q xs (Implied a b) price l d h c =
      ap (λ (ys : List Order). after_fill q ys b) (fill_own q xs a own (a.leaves == q)
      (λ e. own_first on n own a b price l (d own a (Contains-push xs own)
      (Contains-append_left xs (own ∷ []) a c.0) e) h))
      ∙ fill_own q (after_fill q xs a) b own (b.leaves == q)
      (λ e. own_second on n own a b price l (d own b (Contains-push xs own)
      (Contains-append_left xs (own ∷ []) b c.1) e) h)

  pub others_after : (n own : Order) (q : ℕ) (xs : List Order) (p : Counterparty) (price : ℤ) → IsLike n own
      → PlacesDiffer (xs ++ own ∷ []) → price_of on n p ≡ Some price → AllStandIn xs p →
      fold (after_fill q) (xs ++ own ∷ []) (members p) ≡ fold (after_fill q) xs (members p) ++ own ∷ []
  others_after n own q xs p price l d h c = members_own n own q xs p price l d h c

  -- ---- one turn more

  pub turns_more : (references : List ℤ) (k : ℕ) (s : Trading)
      → turns on references (suc k) s ≡ turn on references (turns on references k s)
  turns_more references zero s = refl
  turns_more references (suc k) s = turns_more references k (turn on references s)

  -- what is next is what the search found
  next_by : (s : Trading) (r : Option Candidate) (b : Bool) → (s.new.leaves == 0) ≡ b → 0 < s.new.leaves
      → r ≡ least_candidate on s.new (counterparties s.orders)
      → cond b None (least_candidate on s.new (counterparties s.orders)) ≡ r
  next_by s r true e h f = absurd (grind (arith, nat_tests))
  next_by s r false e h f = sym f

  pub next_is : (s : Trading) (r : Option Candidate) → 0 < s.new.leaves → PlacesDiffer s.orders
      → IsBest on s.new s.orders r → next_candidate on s ≡ r
  next_is s r h d b = next_by s r (s.new.leaves == 0) refl h (best_is_first on s.new s.orders r d b)

  pub like_own : (references : List ℤ) (k : ℕ) (own : Order) (rest : List Order)
      → IsLike (turns on references k (begin own rest)).new own
  like_own references k own rest =
      let e = (keeps_turns on references k (begin own rest)).new in
      record { instrument = sym (ap (λ (o : Order). o.instrument) e); side = sym (ap (λ (o : Order). o.side) e) }

  -- where there is no next, the clearing is done
  pub cleared_at : (references : List ℤ) (k : ℕ) (own : Order) (rest : List Order)
      → next_candidate on (turns on references k (begin own rest)) ≡ None
      → turns on references k (begin own rest) ≡ clear on references own rest
  cleared_at references k own rest h = one_end on references k (length rest) (begin own rest) h
      (enough on references (length rest) (begin own rest) (omega arith)) ∙ sym (clear_is on references own rest)

  spent : (s : Trading) (b : Bool) → (s.new.leaves == 0) ≡ b → s.new.leaves ≤ 0
      → cond b None (least_candidate on s.new (counterparties s.orders)) ≡ None
  spent s true e h = refl
  spent s false e h = absurd (grind (arith, nat_tests))

  pub spent_next : (s : Trading) → s.new.leaves ≤ 0 → next_candidate on s ≡ None
  spent_next s h = spent s (s.new.leaves == 0) refl h
