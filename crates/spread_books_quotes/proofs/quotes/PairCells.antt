-- cells of pairs, after the fronts of one other month changed
use Rattle.std.proofs.Common.{◌≡◌, ℕ, zero, suc, ◌<◌, ◌==◌, ℤ, ◌+ℤ◌, ◌≤ℤ◌, Bool, true, false, cond, List, [], ◌∷◌, ◌++◌, ◌+◌, ◌*◌, ◌-◌, length, take, drop, get_or, slice_set, replicate, Option, Some, None, IfSome, refl, sym, ap, ◌∙◌, subst, arith, inl, inr}
use Rattle.std.specs.Prelude.{int_lt, slice_get, option_map}
use Rattle.std.proofs.lemmas.Bool.Decides.{nat_tests}
use Rattle.std.proofs.lemmas.Int.{ints}
use Rattle.std.proofs.lemmas.List.{map-set, length-map}
use Rattle.std.proofs.lemmas.Option.{slice_get-map, slice_get-get_or, slice_get_within}
use Rattle.spread_rules_rulebook.specs.Prices.{IsOrderPrice, IsLegPrice}
use Rattle.spread_rules.specs.declared.order.Side.{Side}
use Rattle.spread_rules.specs.declared.order.Side.TheVariants.{Buy, Sell}
use Rattle.spread_rules.specs.declared.order.Order.{Order}
use Rattle.spread_rules.specs.Candidates.{Pairs}
use Rattle.spread_books_plain.specs.Pairs.{IsCheapest}
use Rattle.spread_books_plain.specs.declared.pair.PairCost.{PairCost}
use Rattle.spread_books_quotes.specs.declared.front_costs.TheConstants.{NO_PAIR}
use Rattle.spread_books_search.specs.code.Cheapest.{CostsOfFronts, KeepsOthers, is_sooner, sooner_of}
use Rattle.spread_books_quotes.specs.code.FrontCosts.{cost_of_cell, sum_of, cell_of, row_cell, pair_of_cell, pairs_of, spread_cost, outright_cost, AreFrontCosts, CostRows}
use Rattle.spread_books_quotes.specs.code.QuoteTable.{AreAmong, known_pair, HasCheapest}
use Rattle.spread_books_quotes.proofs.quotes.Cells.{two_told}
use Rattle.spread_books_quotes.proofs.quotes.Columns.{left_row, first_pair, next_pair}
use Rattle.spread_books_quotes.proofs.quotes.CostRows.{pair_costs}
use Rattle.spread_books_quotes.proofs.quotes.Tables.{other_cell, own_cell}

-- ---- where orders left

if_cell : (held : PairCost) (via : ℕ) (b : Bool) → (held.other_month == via) ≡ false
    → IfSome (cond b (Some held) None) (λ l. (l.other_month == via) ≡ false)
if_cell held via true e = e
if_cell held via false e = tt

-- a cell whose pair is of another month
pub left_cell : (on : Pairs) (xs ys : List Order) (side : Side) (m months via : ℕ) (held : PairCost) → AreAmong ys xs
    → KeepsOthers xs ys side m via → (held.other_month ≡ via → ⊥) →
    IsCheapest on xs side m months (pair_of_cell held) → IsCheapest on ys side m months (pair_of_cell held)
left_cell on xs ys side m months via held fewer keep e h =
    let apart : (held.other_month == via) ≡ false = grind (arith, nat_tests, e) in
    left_row on xs ys side m months via (pair_of_cell held) fewer keep
    (if_cell held via (int_lt held.cost NO_PAIR) apart) h

-- ---- where orders came

none_by : (s : ℤ) (via : ℕ) (held : PairCost) (b c : Bool) → is_sooner s via held ≡ b → int_lt held.cost NO_PAIR ≡ c
    → NO_PAIR ≤ℤ s → pair_of_cell (cond b (record { cost = s; other_month = via }) held) ≡ pair_of_cell held
none_by s via held false c sooner near far = refl
none_by s via held true true sooner near far = absurd (grind (arith, ints, nat_tests, sooner, near, far))
none_by s via held true false sooner near far =
    let none : int_lt s NO_PAIR ≡ false = grind (arith, ints, far) in rw (near, none) refl

-- no pair takes a cell's place
none_sooner : (s : ℤ) (via : ℕ) (held : PairCost) → NO_PAIR ≤ℤ s
    → pair_of_cell (sooner_of s via held) ≡ pair_of_cell held
none_sooner s via held far = none_by s via held (is_sooner s via held) (int_lt held.cost NO_PAIR) refl refl far

under : (s : ℤ) → IsLegPrice s → int_lt s NO_PAIR ≡ true
under s small = let high = small.high in grind (arith, ints, high)

one_of : (s : ℤ) (via : ℕ) (held : PairCost) (b : Bool) → int_lt held.cost NO_PAIR ≡ true → IsLegPrice s
    → pair_of_cell (cond b (record { cost = s; other_month = via }) held) ≡ Some
    (cond b (record { cost = s; other_month = via }) held)
one_of s via held true near small = rw (under s small) refl
one_of s via held false near small = rw near refl

module _ (on : Pairs) (xs ys : List Order) (side : Side) (m months via : ℕ) (keep : KeepsOthers xs ys side m via)
    (lt : via < months) (among : AreAmong xs ys) where
  stays : (o : Option PairCost) → CostsOfFronts on ys side m via None → IsCheapest on xs side m months o
      → IsCheapest on ys side m months o
  stays None f h = first_pair on xs ys side m months via keep lt None h f tt
  stays (Some held) f h = next_pair on xs ys side m months via keep lt held None among h f tt

  taken : (held : PairCost) (s : ℤ) (b : Bool) → int_lt held.cost NO_PAIR ≡ b → IsLegPrice s
      → CostsOfFronts on ys side m via (Some s) →
      IsCheapest on xs side m months (cond b (Some held) None)
      → IsCheapest on ys side m months (pair_of_cell (sooner_of s via held))
  taken held s true near small f h =
      subst (IsCheapest on ys side m months) (sym (one_of s via held (is_sooner s via held) near small))
      (next_pair on xs ys side m months via keep lt held (Some s) among h f small)
  taken held s false near small f h =
      let high = small.high in
      let sooner : is_sooner s via held ≡ true = grind (arith, ints, nat_tests, near, high) in
      let is : pair_of_cell (sooner_of s via held) ≡ Some (record { cost = s; other_month = via }) =
      rw (sooner, under s small) refl in
      subst (IsCheapest on ys side m months) (sym is) (first_pair on xs ys side m months via keep lt (Some s) h f small)

  -- a cell, and what two cells of the other month come to
  came_cell : (held : PairCost) (a b : ℤ) → IfSome (cost_of_cell a) IsOrderPrice → IfSome (cost_of_cell b) IsOrderPrice
      → CostsOfFronts on ys side m via (sum_of (cost_of_cell a) (cost_of_cell b)) →
      IsCheapest on xs side m months (pair_of_cell held)
      → IsCheapest on ys side m months (pair_of_cell (sooner_of (a +ℤ b) via held))
  came_cell held a b small also f h = elim (two_told a b small also) [
    | inl x ↦ subst (IsCheapest on ys side m months) (sym (none_sooner (a +ℤ b) via held x.0))
        (stays (pair_of_cell held) (subst (CostsOfFronts on ys side m via) x.1 f) h)
    | inr x ↦ taken held (a +ℤ b) (int_lt held.cost NO_PAIR) refl x.0 (subst (CostsOfFronts on ys side m via) x.1 f) h
  ]

  -- and where rows tell them
  pub came_told : (rows : CostRows) (held : PairCost) (a b : ℤ) → AreFrontCosts on months ys rows → m < months
      → cost_of_cell a ≡ spread_cost rows side m via → cost_of_cell b ≡ outright_cost rows side via →
      IfSome (cost_of_cell a) IsOrderPrice → IfSome (cost_of_cell b) IsOrderPrice
      → IsCheapest on xs side m months (pair_of_cell held)
      → IsCheapest on ys side m months (pair_of_cell (sooner_of (a +ℤ b) via held))
  came_told rows held a b told below first second small also h =
      let sum = ap (λ (o : Option ℤ). sum_of o (cost_of_cell b)) first
      ∙ ap (sum_of (spread_cost rows side m via)) second in
      came_cell held a b small also (subst (CostsOfFronts on ys side m via) (sym sum)
      (pair_costs on months ys rows side m via told below lt)) h

-- ---- cells of a table

pub put_elsewhere : (cells : List PairCost) (s t : Side) (m k n : ℕ) (new : PairCost) → n ≡ cell_of s m
    → ((t ≡ s) × (k ≡ m) → ⊥) → known_pair (pairs_of (slice_set cells n new)) t k ≡ known_pair (pairs_of cells) t k
put_elsewhere cells s t m k n new at other =
    ap (λ (i : ℕ). known_pair (pairs_of (slice_set cells i new)) t k) at
    ∙ (ap (λ (ps : List (Option PairCost)). known_pair ps t k) (map-set pair_of_cell cells (cell_of s m) new)
    ∙ other_cell (pairs_of cells) s t m k (pair_of_cell new) other)

pub put_there : (on : Pairs) (months : ℕ) (xs : List Order) (cells : List PairCost) (s : Side) (m n : ℕ)
    (new : PairCost) → n ≡ cell_of s m → IsCheapest on xs s m months (pair_of_cell new)
    → HasCheapest on months xs (pairs_of (slice_set cells n new)) s m
put_there on months xs cells s m n new at h =
    subst (λ (i : ℕ). HasCheapest on months xs (pairs_of (slice_set cells i new)) s m) (sym at)
    (subst (λ (ps : List (Option PairCost)). HasCheapest on months xs ps s m)
    (sym (map-set pair_of_cell cells (cell_of s m) new))
    (own_cell on months xs (pairs_of cells) s m (pair_of_cell new) h))

pub held_there : (on : Pairs) (months : ℕ) (xs : List Order) (cells : List PairCost) (s : Side) (m n : ℕ) (d : PairCost)
    → n ≡ cell_of s m → n < length cells → HasCheapest on months xs (pairs_of cells) s m
    → IsCheapest on xs s m months (pair_of_cell (get_or cells n d))
held_there on months xs cells s m n d at lt h =
    h (pair_of_cell (get_or cells n d))
    (ap (λ (i : ℕ). slice_get (pairs_of cells) i) (sym at)
    ∙ (slice_get-map pair_of_cell cells n ∙ ap (λ (o : Option PairCost). option_map pair_of_cell o)
    (slice_get-get_or cells n d lt)))

-- a table of cells of no pair
pub no_pairs : (n : ℕ) (cell : PairCost) → pair_of_cell cell ≡ None → pairs_of (replicate n cell) ≡ replicate n None
no_pairs zero cell none = refl
no_pairs (suc n) cell none = rw none (ap (λ (ps : List (Option PairCost)). None ∷ ps) (no_pairs n cell none))

taken_whole : {X : Type 0} (xs rest : List X) (n : ℕ) → n ≡ length xs → take n (xs ++ rest) ≡ xs
taken_whole xs rest n e = subst (λ (k : ℕ). take k (xs ++ rest) ≡ xs) (sym e) (all_taken xs rest)
  where
    all_taken : {X : Type 0} (xs rest : List X) → take (length xs) (xs ++ rest) ≡ xs
    all_taken [] rest = refl
    all_taken (x ∷ xs) rest = ap (λ (ys : List _). x ∷ ys) (all_taken xs rest)

-- the items of a vector whose cells were renewed
pub written : (was new items : List PairCost) (len : ℕ) → length new ≡ length was → length was ≡ len
    → take len (new ++ drop (length new) items) ≡ new
written was new items len same count = taken_whole new (drop (length new) items) len (omega (arith, same, count))

-- the items of a vector that has grown from none
pub resized : (items : List PairCost) (n len : ℕ) (cell : PairCost) → items ≡ [] → len ≡ 0 → take n items
    ++ replicate (n - len) cell ≡ replicate n cell
resized items n len cell none zero_long =
    let start : take n items ≡ [] = ap (take n) none ∙ none_taken n in
    let count : n - len ≡ n = omega (arith, zero_long) in
    rw (start, count) refl
  where
    none_taken : (k : ℕ) → ◌≡◌ {A = List PairCost} (take k []) []
    none_taken zero = refl
    none_taken (suc k) = refl

pub known_within : (cells : List PairCost) (s : Side) (m : ℕ) (least : Option PairCost)
    → known_pair (pairs_of cells) s m ≡ Some least → cell_of s m < length cells
known_within cells s m least known = subst (λ (n : ℕ). cell_of s m < n) (length-map cells pair_of_cell)
    (slice_get_within (pairs_of cells) (cell_of s m) least known)

pub row_within : (s : Side) (k via n i : ℕ) → i ≡ row_cell s k via → k * 48 + 47 < n → via < 24 → i < n
row_within Buy k via n i is room lt = omega (arith, is, room, lt)
row_within Sell k via n i is room lt = omega (arith, is, room, lt)
