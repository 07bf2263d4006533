-- one turn more that is told is one turn more of the definition
use Rattle.std.proofs.Common.{◌≡◌, ℕ, zero, suc, ◌-◌, ◌<◌, ◌≤◌, ◌==◌, nat_lt, ℤ, Bool, true, false, not, cond, List, [], ◌∷◌, ◌++◌, fold, length, get_or, All, Some, None, ◌⊎◌, inl, inr, refl, subst, sym, ap, ◌∙◌, arith, length-append}
use Rattle.std.proofs.lemmas.Bool.Decides.{nat_tests}
use Rattle.std.proofs.lemmas.List.{get_or_push, get_or_append_left}
use Rattle.std.proofs.lemmas.List.Elements.{All-filter, All-map, All-weaker}
use Rattle.spread_rules.specs.declared.order.Order.{Order}
use Rattle.spread_rules.specs.declared.candidate.Counterparty.{Counterparty}
use Rattle.spread_rules.specs.declared.candidate.Counterparty.TheVariants.{Direct, Implied}
use Rattle.spread_rules.specs.code.Cases.{with_less_left}
use Rattle.spread_rules.specs.Candidates.{Pairs, members}
use Rattle.spread_rules.specs.code.Candidates.{HasOrderPrice}
use Rattle.spread_rules.specs.Clearing.{Trading, after_fill, clear, reduced, removed}
use Rattle.spread_rules.specs.code.Clearing.{after_match, begin, next_candidate, turn, turns}
use Rattle.spread_rules_rulebook.specs.Rulebook.{Rules, implied, references_of}
use Rattle.spread_rules.proofs.clearings.ClearIsTurns.{clear_is}
use Rattle.spread_rules.proofs.clearings.TurnsEnd.{enough, one_end}
use Rattle.explain_turns.specs.declared.turn.ExplainedTurn.{ExplainedTurn}
use Rattle.explain_turns.specs.Explained.{AreTurns, IsTurn, after_turns}
use Rattle.explain_turns.specs.code.Turns.{IsAfter}

turns_more : (on : Pairs) (references : List ℤ) (k : ℕ) (s : Trading)
    → turns on references (suc k) s ≡ turn on references (turns on references k s)
turns_more on references zero s = refl
turns_more on references (suc k) s = turns_more on references k (turn on references s)

-- ---- prices stay

less_has : (P : Order → Type 0) (by : ℕ) (o : Order) (b : Bool) → P o → P (record o { leaves = o.leaves - by })
    → P (cond b (record o { leaves = o.leaves - by }) o)
less_has P by o true h k = k
less_has P by o false h k = h

fill_all : (q : ℕ) (xs : List Order) (m : Order) (b : Bool) → All HasOrderPrice xs
    → All HasOrderPrice (cond b (removed m.place xs) (reduced m.place q xs))
fill_all q xs m true h = All-filter (λ (o : Order). not (o.place == m.place)) HasOrderPrice xs h
fill_all q xs m false h = All-map HasOrderPrice (with_less_left m.place q) xs
    (All-weaker HasOrderPrice (λ (o : Order). HasOrderPrice (with_less_left m.place q o))
    (λ o p. less_has HasOrderPrice q o (o.place == m.place) p (record { low = p.low; high = p.high })) xs h)

pub members_all : (q : ℕ) (xs : List Order) (p : Counterparty) → All HasOrderPrice xs
    → All HasOrderPrice (fold (after_fill q) xs (members p))
members_all q xs (Direct o) h = fill_all q xs o (o.leaves == q) h
members_all q xs (Implied a b) h = fill_all q (after_fill q xs a) b (b.leaves == q) (fill_all q xs a (a.leaves == q) h)

-- ---- one turn more

module _ (rules : Rules) where
  turn_is : (s : Trading) (t : ExplainedTurn) → IsTurn rules s t
      → turn (implied rules) (references_of rules) s ≡ after_match (references_of rules) s (Some t.taken)
  turn_is s t h = ap (after_match (references_of rules) s) h.taken

  more : (n : Order) (xs : List Order) (k : ℕ) (t : ExplainedTurn) → IsTurn rules (after_turns rules n xs k) t
      → after_turns rules n xs (suc k) ≡ after_match (references_of rules) (after_turns rules n xs k) (Some t.taken)
  more n xs k t h = turns_more (implied rules) (references_of rules) k (begin n xs)
      ∙ turn_is (after_turns rules n xs k) t h

  new_after : (s : Trading) (t : ExplainedTurn) → IsTurn rules s t
      → record s.new { leaves = s.new.leaves - t.quantity } ≡ (after_match (references_of rules) s (Some t.taken)).new
  new_after s t h = ap (λ (q : ℕ). record s.new { leaves = s.new.leaves - q }) h.quantity

  orders_after : (s : Trading) (t : ExplainedTurn) → IsTurn rules s t
      → fold (after_fill t.quantity) s.orders (members t.taken.counterparty) ≡
      (after_match (references_of rules) s (Some t.taken)).orders
  orders_after s t h = ap (λ (q : ℕ). fold (after_fill q) s.orders (members t.taken.counterparty)) h.quantity

  -- the turn after the state is one after what it begins with
  at_state : (s : Trading) (left : Order) (orders : List Order) (t : ExplainedTurn) → left ≡ s.new → orders ≡ s.orders
      → IsTurn rules (begin left orders) t → IsTurn rules s t
  at_state s left orders t e f h =
      let h2 = subst (λ (n : Order). IsTurn rules (begin n s.orders) t) e
      (subst (λ (ys : List Order). IsTurn rules (begin left ys) t) f h) in
      record {
        left = h2.left;
        taken = h2.taken;
        least = h2.least;
        quantity = h2.quantity;
        legs = h2.legs;
        next =
            h2.next;
      }

  each_with : (n : Order) (xs : List Order) (ts : List ExplainedTurn) (t : ExplainedTurn)
      → ((k : ℕ) (d : ExplainedTurn) → k < length ts → IsTurn rules (after_turns rules n xs k) (get_or ts k d))
      → IsTurn rules (after_turns rules n xs (length ts)) t →
      (k : ℕ) (d : ExplainedTurn) → (k < length ts) ⊎ (length ts ≡ k)
      → IsTurn rules (after_turns rules n xs k) (get_or (ts ++ t ∷ []) k d)
  each_with n xs ts t h last k d (inl lt) = subst (IsTurn rules (after_turns rules n xs k))
      (sym (get_or_append_left ts (t ∷ []) d k lt)) (h k d lt)
  each_with n xs ts t h last k d (inr e) = subst (IsTurn rules (after_turns rules n xs k))
      (sym (get_or_push ts t d k e)) (subst (λ (j : ℕ). IsTurn rules (after_turns rules n xs j) t) e last)

  below_or_last : (k m : ℕ) (b : Bool) → nat_lt k m ≡ b → k < suc m → (k < m) ⊎ (m ≡ k)
  below_or_last k m true e h = inl (grind (arith, nat_tests))
  below_or_last k m false e h = inr (grind (arith, nat_tests))

  pub one_more : (n : Order) (xs : List Order) (left : Order) (orders : List Order) (ts : List ExplainedTurn)
      (t : ExplainedTurn) → IsAfter rules n xs left orders ts → IsTurn rules (begin left orders) t →
      IsAfter rules n xs (record left { leaves = left.leaves - t.quantity })
      (fold (after_fill t.quantity) orders (members t.taken.counterparty)) (ts ++ t ∷ [])
  one_more n xs left orders ts t a h =
      let s = after_turns rules n xs (length ts) in
      let is : IsTurn rules s t = at_state s left orders t a.new a.orders_are h in
      let count : length (ts ++ t ∷ []) ≡ suc (length ts) = omega (arith, length-append ts (t ∷ [])) in
      let state : after_match (references_of rules) s (Some t.taken) ≡ after_turns rules n xs (length (ts ++ t ∷ [])) =
      sym (ap (after_turns rules n xs) count ∙ more n xs (length ts) t is) in
      record {
        new = ap (λ (o : Order). record o { leaves = o.leaves - t.quantity }) a.new ∙ new_after s t is
            ∙ ap (λ (u : Trading). u.new) state;
        orders_are = ap (λ (ys : List Order). fold (after_fill t.quantity) ys (members t.taken.counterparty))
            a.orders_are ∙ orders_after s t is ∙ ap (λ (u : Trading). u.orders) state;
        price = a.price;
        each = λ k d lt. each_with n xs ts t a.each is k d
            (below_or_last k (length ts) (nat_lt k (length ts)) refl (subst (λ (m : ℕ). k < m) count lt));
      }

  -- ---- the last turn

  none_at : (s : Trading) (left : Order) (orders : List Order) → left ≡ s.new → orders ≡ s.orders
      → next_candidate (implied rules) (begin left orders) ≡ None → next_candidate (implied rules) s ≡ None
  none_at s left orders e f h = subst (λ (n : Order). next_candidate (implied rules) (begin n s.orders) ≡ None) e
      (subst (λ (ys : List Order). next_candidate (implied rules) (begin left ys) ≡ None) f h)

  told : (n : Order) (xs : List Order) (ts : List ExplainedTurn)
      → ((k : ℕ) (d : ExplainedTurn) → k < length ts → IsTurn rules (after_turns rules n xs k) (get_or ts k d))
      → next_candidate (implied rules) (after_turns rules n xs (length ts)) ≡ None → AreTurns rules n xs ts
  told n xs ts each none = record {
    each = each;
    last = none;
    cleared = one_end (implied rules) (references_of rules) (length ts) (length xs) (begin n xs) none
        (enough (implied rules) (references_of rules) (length xs) (begin n xs) (omega arith))
        ∙ sym (clear_is (implied rules) (references_of rules) n xs);
  }

  -- where there is no next
  pub told_none : (n : Order) (xs : List Order) (left : Order) (orders : List Order) (ts : List ExplainedTurn)
      → IsAfter rules n xs left orders ts → next_candidate (implied rules) (begin left orders) ≡ None
      → AreTurns rules n xs ts
  told_none n xs left orders ts a h = told n xs ts a.each
      (none_at (after_turns rules n xs (length ts)) left orders a.new a.orders_are h)

  -- after as many turns as orders rested
  pub told_all : (n : Order) (xs : List Order) (left : Order) (orders : List Order) (ts : List ExplainedTurn)
      → IsAfter rules n xs left orders ts → length xs ≤ length ts → AreTurns rules n xs ts
  told_all n xs left orders ts a h = told n xs ts a.each
      (enough (implied rules) (references_of rules) (length ts) (begin n xs) h)

  -- ---- what is left at the end

  pub left_is : (n : Order) (xs : List Order) (left : Order) (orders : List Order) (ts : List ExplainedTurn)
      → IsAfter rules n xs left orders ts → AreTurns rules n xs ts
      → left ≡ (clear (implied rules) (references_of rules) n xs).new
  left_is n xs left orders ts a h = a.new ∙ ap (λ (u : Trading). u.new) h.cleared

  pub orders_are : (n : Order) (xs : List Order) (left : Order) (orders : List Order) (ts : List ExplainedTurn)
      → IsAfter rules n xs left orders ts → AreTurns rules n xs ts
      → orders ≡ (clear (implied rules) (references_of rules) n xs).orders
  orders_are n xs left orders ts a h = a.orders_are ∙ ap (λ (u : Trading). u.orders) h.cleared
