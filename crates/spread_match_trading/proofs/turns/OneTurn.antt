-- one turn more of the book is one turn more of the definition
use Rattle.std.proofs.Common.{◌≡◌, ℕ, suc, ◌+◌, ◌*◌, ◌-◌, ◌<◌, ◌≤◌, nat_lt, ℤ, Bool, true, false, length, List, [], ◌∷◌, ◌++◌, fold, All, Some, None, refl, subst, sym, ap, ◌∙◌, arith, min}
use Rattle.std.proofs.lemmas.Bool.Decides.{nat_tests}
use Rattle.std.proofs.lemmas.List.Elements.{All-contains}
use Rattle.spread_rules.specs.declared.order.Order.{Order}
use Rattle.spread_rules.specs.declared.fill.Fill.{Fill}
use Rattle.spread_rules.specs.declared.candidate.Candidate.{Candidate}
use Rattle.spread_rules.specs.declared.candidate.Counterparty.{Counterparty}
use Rattle.spread_rules.specs.declared.candidate.Counterparty.TheVariants.{Direct, Implied}
use Rattle.spread_rules.specs.Candidates.{IsLeast, AllStandIn, least_left, IsBest, Pairs, members}
use Rattle.spread_rules.specs.Clearing.{Trading, clear, fills_of, after_fill}
use Rattle.spread_rules.specs.code.Clearing.{next_candidate, turns, after_match, begin}
use Rattle.spread_match_trading.specs.Tradable.{IsTradable}
use Rattle.spread_match_trading.specs.code.Turns.{IsAfter}
use Rattle.spread_match_trading.proofs.turns.NotAgainstItself.{best_of_others}
use Rattle.spread_match_trading.proofs.turns.StaysTradable.{others_after, turns_more, next_is, like_own, fewer_differ, cleared_at, spent_next}

pub least_some : (n : Order) (xs : List Order) (p : Counterparty) → AllStandIn xs p → All (λ o. 0 < o.leaves) xs
    → 0 < n.leaves → 0 < least_left n p
least_some n xs (Direct o) c h l = let a = All-contains (λ (w : Order). 0 < w.leaves) xs o h c in omega (arith, a)
least_some n xs (Implied x y) c h l =
    let a = All-contains (λ (w : Order). 0 < w.leaves) xs x h c.0 in
    let b = All-contains (λ (w : Order). 0 < w.leaves) xs y h c.1 in
    omega (arith, a, b)

-- ---- the room for fills

pub length_push : (xs : List Order) (y : Order) → length (xs ++ y ∷ []) ≡ length xs + 1
length_push [] y = refl
length_push (x ∷ xs) y = omega (arith, length_push xs y)

some_rest : (xs : List Order) (p : Counterparty) → AllStandIn xs p → 0 < length xs
some_rest xs (Direct o) c = omega (arith, c.1)
some_rest xs (Implied a b) c = omega (arith, c.0.1)

room_by : (len more cap wide leaves fewer q old new : ℕ) (b : Bool) → nat_lt q leaves ≡ b
    → len + 3 * min leaves (old - 1) ≤ cap → more ≤ len + 3 → cap ≤ wide → 0 < q → 0 < leaves → 0 < old - 1
    → fewer ≡ leaves - q → (q < leaves → new < old) → more + 3 * min fewer (new - 1) ≤ wide
room_by len more cap wide leaves fewer q old new true e h l c p o w f s = let lt : q < leaves =
    grind (arith, nat_tests) in let n = s lt in omega arith
room_by len more cap wide leaves fewer q old new false e h l c p o w f s = let ge : leaves ≤ q =
    grind (arith, nat_tests) in omega arith

pub room_kept : (len more cap wide leaves fewer q old new : ℕ) → len + 3 * min leaves (old - 1) ≤ cap → more ≤ len + 3
    → cap ≤ wide → 0 < q → 0 < leaves → 0 < old - 1 → fewer ≡ leaves - q → (q < leaves → new < old)
    → more + 3 * min fewer (new - 1) ≤ wide
room_kept len more cap wide leaves fewer q old new h l c p o w f s =
    room_by len more cap wide leaves fewer q old new (nat_lt q leaves) refl h l c p o w f s

pub room_first : (len cap leaves old new : ℕ) → len + 3 * min leaves old ≤ cap → new ≡ old + 1
    → len + 3 * min leaves (new - 1) ≤ cap
room_first len cap leaves old new h e = omega arith

pub room_once : (len cap leaves old : ℕ) → len + 3 * min leaves (old - 1) ≤ cap → 0 < leaves → 0 < old - 1
    → len + 3 ≤ cap
room_once len cap leaves old h l o = omega arith

module _ (on : Pairs) where
  after_at : (references : List ℤ) (months k : ℕ) (own : Order) (rest : List Order) (candidate : Candidate) →
      IsTradable months ((turns on references k (begin own rest)).orders ++ own ∷ [])
      → 0 < (turns on references k (begin own rest)).new.leaves →
      IsLeast on (turns on references k (begin own rest)).new
      ((turns on references k (begin own rest)).orders ++ own ∷ []) candidate →
      IsAfter on references own rest
      (record (turns on references k (begin own rest)).new {
        leaves = (turns on references k (begin own rest)).new.leaves - least_left
            (turns on references k (begin own rest)).new candidate.counterparty;
      })
      (fold (after_fill (least_left (turns on references k (begin own rest)).new candidate.counterparty))
      ((turns on references k (begin own rest)).orders ++ own ∷ []) (members candidate.counterparty))
      ((turns on references k (begin own rest)).fills ++ fills_of references
      (turns on references k (begin own rest)).new candidate)
  after_at references months k own rest candidate tr pos least =
      let t = turns on references k (begin own rest) in
      let like = like_own on references k own rest in
      let narrow : IsLeast on t.new t.orders candidate =
      best_of_others on t.new own t.orders (Some candidate) like least in
      let found : next_candidate on t ≡ Some candidate =
      next_is on t (Some candidate) pos (fewer_differ own t.orders tr.places) narrow in
      let more : turns on references (suc k) (begin own rest) ≡ after_match references t (Some candidate) =
      turns_more on references k (begin own rest) ∙ ap (after_match references t) found in
      record {
        count = suc k;
        left_is = sym (ap (λ (s : Trading). s.new) more);
        orders_is = others_after on t.new own (least_left t.new candidate.counterparty) t.orders candidate.counterparty
            candidate.price like tr.places least.eligible.meets narrow.eligible.stands
            ∙ ap (λ (s : Trading). s.orders ++ own ∷ []) (sym more);
        fills_is = sym (ap (λ (s : Trading). s.fills) more);
      }

  pub after_turn : (references : List ℤ) (months : ℕ) (own : Order) (rest : List Order) (left : Order)
      (book : List Order) (made : List Fill) (candidate : Candidate) →
      IsAfter on references own rest left book made → IsTradable months book → 0 < left.leaves
      → IsLeast on left book candidate →
      IsAfter on references own rest (record left { leaves = left.leaves - least_left left candidate.counterparty })
      (fold (after_fill (least_left left candidate.counterparty)) book (members candidate.counterparty))
      (made ++ fills_of references left candidate)
  after_turn references months own rest left book made candidate a tr pos least =
      let t = turns on references a.count (begin own rest) in
      let tr2 = subst (IsTradable months) a.orders_is tr in
      let pos2 = subst (λ (n : Order). 0 < n.leaves) a.left_is pos in
      let least2 = subst (λ (n : Order). IsLeast on n (t.orders ++ own ∷ []) candidate) a.left_is
      (subst (λ (xs : List Order). IsLeast on left xs candidate) a.orders_is least) in
      let done = after_at references months a.count own rest candidate tr2 pos2 least2 in
      subst (λ (n : Order). IsAfter on references own rest
      (record n { leaves = n.leaves - least_left n candidate.counterparty })
      (fold (after_fill (least_left n candidate.counterparty)) book (members candidate.counterparty))
      (made ++ fills_of references n candidate)) (sym a.left_is)
      (subst (λ (xs : List Order). IsAfter on references own rest
      (record t.new { leaves = t.new.leaves - least_left t.new candidate.counterparty })
      (fold (after_fill (least_left t.new candidate.counterparty)) xs (members candidate.counterparty))
      (made ++ fills_of references t.new candidate)) (sym a.orders_is)
      (subst (λ (fs : List Fill). IsAfter on references own rest
      (record t.new { leaves = t.new.leaves - least_left t.new candidate.counterparty })
      (fold (after_fill (least_left t.new candidate.counterparty)) (t.orders ++ own ∷ [])
      (members candidate.counterparty)) (fs ++ fills_of references t.new candidate)) (sym a.fills_is) done))

  -- the clearing is done where nothing is left, and where the search finds none
  pub record IsDone (references : List ℤ) (own : Order) (rest : List Order) (left : Order) (book : List Order)
      (made : List Fill) : Type 0 where
    pub left_is : left ≡ (clear on references own rest).new
    pub orders_is : book ≡ (clear on references own rest).orders ++ own ∷ []
    pub fills_is : made ≡ (clear on references own rest).fills

  done_at : (references : List ℤ) (own : Order) (rest : List Order) (left : Order) (book : List Order)
      (made : List Fill) (a : IsAfter on references own rest left book made) →
      next_candidate on (turns on references a.count (begin own rest)) ≡ None
      → IsDone references own rest left book made
  done_at references own rest left book made a h =
      let e = cleared_at on references a.count own rest h in
      record {
        left_is = a.left_is ∙ ap (λ (s : Trading). s.new) e;
        orders_is = a.orders_is
            ∙ ap (λ (s : Trading). s.orders ++ own ∷ []) e;
        fills_is = a.fills_is ∙ ap (λ (s : Trading). s.fills) e;
      }

  pub done_spent : (references : List ℤ) (own : Order) (rest : List Order) (left : Order) (book : List Order)
      (made : List Fill) → IsAfter on references own rest left book made → left.leaves ≤ 0
      → IsDone references own rest left book made
  done_spent references own rest left book made a h =
      done_at references own rest left book made a (spent_next on (turns on references a.count (begin own rest))
      (subst (λ (n : Order). n.leaves ≤ 0) a.left_is h))

  pub done_none : (references : List ℤ) (months : ℕ) (own : Order) (rest : List Order) (left : Order)
      (book : List Order) (made : List Fill) → IsAfter on references own rest left book made → IsTradable months book
      → 0 < left.leaves → IsBest on left book None → IsDone references own rest left book made
  done_none references months own rest left book made a tr pos none =
      let t = turns on references a.count (begin own rest) in
      let tr2 = subst (IsTradable months) a.orders_is tr in
      let none2 = subst (λ (n : Order). IsBest on n (t.orders ++ own ∷ []) None) a.left_is
      (subst (λ (xs : List Order). IsBest on left xs None) a.orders_is none) in
      done_at references own rest left book made a
      (next_is on t None (subst (λ (n : Order). 0 < n.leaves) a.left_is pos) (fewer_differ own t.orders tr2.places)
      (best_of_others on t.new own t.orders None (like_own on references a.count own rest) none2))

  -- while there is a candidate, another order rests beside the new one
  pub others_some : (references : List ℤ) (own : Order) (rest : List Order) (left : Order) (book : List Order)
      (made : List Fill) (candidate : Candidate) →
      IsAfter on references own rest left book made → IsLeast on left book candidate → 0 < length book - 1
  others_some references own rest left book made candidate a least =
      let t = turns on references a.count (begin own rest) in
      let least2 = subst (λ (n : Order). IsLeast on n (t.orders ++ own ∷ []) candidate) a.left_is
      (subst (λ (xs : List Order). IsLeast on left xs candidate) a.orders_is least) in
      let narrow : IsLeast on t.new t.orders candidate =
      best_of_others on t.new own t.orders (Some candidate) (like_own on references a.count own rest) least2 in
      let some = some_rest t.orders candidate.counterparty narrow.eligible.stands in
      let more = length_push t.orders own in
      let long : length book ≡ length (t.orders ++ own ∷ []) = ap (λ (xs : List Order). length xs) a.orders_is in
      omega arith
