-- cells of costs, where one number stands for no cost
use Rattle.std.proofs.Common.{◌≡◌, ℕ, nat_lt, min, ◌++◌, zero, suc, ◌+◌, ◌-◌, ◌<◌, ◌≤◌, ℤ, ◌+ℤ◌, ◌≤ℤ◌, neg_ℤ, Bool, true, false, cond, List, [], ◌∷◌, length, get_or, take, drop, replicate, slice_set, Option, Some, None, IfSome, ◌⊎◌, inl, inr, refl, sym, subst, ap, ◌∙◌, arith, to_z, of_z, w64, FitsSigned}
use Rattle.std.specs.Prelude.{int_lt, unwrap_or}
use Rattle.std.specs.Ordering.{int_eq}
use Rattle.std.specs.Bool.{Decides}
use Rattle.std.proofs.lemmas.Bool.Decides.{Decides-int_eq, nat_tests}
use Rattle.std.proofs.lemmas.Int.{ints}
use Rattle.std.proofs.lemmas.List.{length-set, map-set, take-map, drop-map}
use Rattle.std.proofs.lemmas.List.Elements.{All-tail, All-take, All-drop, All-set, All-replicate}
use Rattle.std.proofs.lemmas.Option.{slice_get_past, IfSome_then}
use Rattle.spread_rules_rulebook.specs.Prices.{IsOrderPrice, IsLegPrice}
use Rattle.spread_rules.specs.declared.order.Side.{Side}
use Rattle.spread_rules.specs.declared.order.Order.{Order}
use Rattle.spread_rules.specs.Candidates.{Pairs}
use Rattle.spread_rules.specs.Legs.{other_side}
use Rattle.spread_books_plain.specs.Pairs.{IsCheapest}
use Rattle.spread_books_plain.specs.declared.pair.PairCost.{PairCost}
use Rattle.spread_books_quotes.specs.declared.front_costs.TheConstants.{NO_COST, NO_PAIR}
use Rattle.spread_books_search.specs.code.Cheapest.{CostsOfFronts, cheaper_of}
use Rattle.spread_books_quotes.specs.code.FrontCosts.{cost_of_cell, costs_of, pair_of_cell, cell_at, sum_of, cost_at, joined, row_cell, set_if, with_spread_cost, spread_cost, outright_cost, AreOrderPrices, CostRows, AreFrontCosts, pair_cost_in}
use Rattle.spread_books_search.proofs.fronts.MonthPairs.{cheapest_more}
use Rattle.spread_books_quotes.proofs.quotes.CostRows.{pair_costs}

abbrev IsSmall : Option ℤ → Type 0
IsSmall c = IfSome c IsOrderPrice

-- ---- what a cell tells

told_by : (a : ℤ) (b : Bool) → int_eq a NO_COST ≡ b → IsSmall (cond b None (Some a)) →
    ((a ≡ NO_COST) × (cond b None (Some a) ≡ None)) ⊎ (IsOrderPrice a × (cond b None (Some a) ≡ Some a))
told_by a true e h = inl ((subst (λ (t : Bool). Decides t (a ≡ NO_COST)) e (Decides-int_eq a NO_COST)).0 refl, refl)
told_by a false e h = inr (h, refl)

-- a cell is of no cost, or of the cost that it tells
told : (a : ℤ) → IsSmall (cost_of_cell a) → ((a ≡ NO_COST) × (cost_of_cell a ≡ None)) ⊎
    (IsOrderPrice a × (cost_of_cell a ≡ Some a))
told a h = told_by a (int_eq a NO_COST) refl h

price_told : (c : ℤ) (b : Bool) → int_eq c NO_COST ≡ b → IsOrderPrice c → cond b None (Some c) ≡ Some c
price_told c true e h =
    let is : c ≡ NO_COST = (subst (λ (t : Bool). Decides t (c ≡ NO_COST)) e (Decides-int_eq c NO_COST)).0 refl in
    let high = h.high in
    absurd (omega (arith, ints, is, high))
price_told c false e h = refl

-- the cell of a cost tells it
cell_told : (cost : Option ℤ) → IsSmall cost → cost_of_cell (unwrap_or cost NO_COST) ≡ cost
cell_told None h = refl
cell_told (Some c) h = price_told c (int_eq c NO_COST) refl h

-- ---- what two cells come to

cell_low : (a : ℤ) → IsSmall (cost_of_cell a) → neg_ℤ NO_PAIR ≤ℤ a
cell_low a h = elim (told a h) [
  | inl x ↦ (let is = x.0 in omega (arith, ints, is))
  | inr x ↦
      (let low = x.0.low in omega (arith, ints, low))
]

cell_high : (a : ℤ) → IsSmall (cost_of_cell a) → a ≤ℤ NO_COST
cell_high a h = elim (told a h) [
  | inl x ↦ (let is = x.0 in omega (arith, ints, is))
  | inr x ↦
      (let high = x.0.high in omega (arith, ints, high))
]

pub sum_fits : (a b : ℤ) → IsSmall (cost_of_cell a) → IsSmall (cost_of_cell b)
    → FitsSigned w64 (to_z w64 (of_z w64 a) +ℤ to_z w64 (of_z w64 b))
sum_fits a b h k =
    let l = cell_low a h in
    let m = cell_high a h in
    let p = cell_low b k in
    let q = cell_high b k in
    omega (arith, ints, l, m, p, q)

pub sum_is : (a b : ℤ) → IsSmall (cost_of_cell a) → IsSmall (cost_of_cell b)
    → to_z w64 (of_z w64 (to_z w64 (of_z w64 a) +ℤ to_z w64 (of_z w64 b))) ≡ a +ℤ b
sum_is a b h k =
    let l = cell_low a h in
    let m = cell_high a h in
    let p = cell_low b k in
    let q = cell_high b k in
    omega (arith, ints, l, m, p, q)

-- a cell as a machine word
pub cell_whole : (a : ℤ) → IsSmall (cost_of_cell a) → to_z w64 (of_z w64 a) ≡ a
cell_whole a h =
    let l = cell_low a h in
    let m = cell_high a h in
    omega (arith, ints, l, m)

pub sum_whole : (a b r : ℤ) → IsSmall (cost_of_cell a) → IsSmall (cost_of_cell b)
    → r ≡ to_z w64 (of_z w64 a) +ℤ to_z w64 (of_z w64 b) → to_z w64 (of_z w64 r) ≡ a +ℤ b
sum_whole a b r h k is =
    let x = cell_whole a h in
    let y = cell_whole b k in
    let l = cell_low a h in
    let m = cell_high a h in
    let p = cell_low b k in
    let q = cell_high b k in
    let sum : r ≡ a +ℤ b = omega (arith, ints, is, x, y) in
    omega (arith, ints, sum, l, m, p, q)

abbrev both : ℤ → ℤ → Option ℤ
both a b = sum_of (cost_of_cell a) (cost_of_cell b)

pub two_told : (a b : ℤ) → IsSmall (cost_of_cell a) → IsSmall (cost_of_cell b) →
    ((NO_PAIR ≤ℤ (a +ℤ b)) × (both a b ≡ None)) ⊎ (IsLegPrice (a +ℤ b) × (both a b ≡ Some (a +ℤ b)))
two_told a b h k =
    let l = cell_low b k in
    elim (told a h) [
      | inl x ↦ let is = x.0 in inl (omega (arith, ints, is, l), ap (λ (c : Option ℤ). sum_of c (cost_of_cell b)) x.1)
      | inr x ↦
          let low = x.0.low in
          let high = x.0.high in
          let first = ap (λ (c : Option ℤ). sum_of c (cost_of_cell b)) x.1 in
          elim (told b k) [
            | inl y ↦ let is = y.0 in inl (omega (arith, ints, is, low), first ∙ ap (sum_of (Some a)) y.1)
            | inr y ↦
                let floor = y.0.low in
                let top = y.0.high in
                inr (
                  record { low = omega (arith, ints, low, floor); high = omega (arith, ints, high, top) },
                  first
                      ∙ ap (sum_of (Some a)) y.1,
                )
          ]
    ]

pub sum_small : (a b : ℤ) → IsSmall (cost_of_cell a) → IsSmall (cost_of_cell b) → IfSome (both a b) IsLegPrice
sum_small a b h k = elim (two_told a b h k) [
  | inl x ↦ subst (λ (c : Option ℤ). IfSome c IsLegPrice) (sym x.1) tt
  | inr x ↦ subst (λ (c : Option ℤ). IfSome c IsLegPrice) (sym x.1) x.0
]

-- ---- the least sum of a row

-- the pair that costs that, if any does
abbrev pub least_pair : ℤ → ℕ → Option PairCost
least_pair least at = pair_of_cell (record { cost = least; other_month = at })

none_cheaper : (p : Option PairCost) (k : ℕ) → cheaper_of p None k ≡ p
none_cheaper None k = refl
none_cheaper (Some h) k = refl

abbrev lesser : ℤ → ℕ → ℤ → ℕ → Option PairCost
lesser sum k least at = cond (int_lt sum least) (least_pair sum k) (least_pair least at)

far_step : (s least : ℤ) (at k : ℕ) → least ≤ℤ NO_PAIR → NO_PAIR ≤ℤ s
    → cheaper_of (least_pair least at) None k ≡ lesser s k least at
far_step s least at k near far = let no_less : int_lt s least ≡ false = grind (arith, ints) in
    rw no_less (none_cheaper (least_pair least at) k)

near_by : (s least : ℤ) (at k : ℕ) (b : Bool) → int_lt least NO_PAIR ≡ b → IsLegPrice s →
    cheaper_of (cond b (Some (record { cost = least; other_month = at })) None) (Some s) k ≡ cond (int_lt s least)
    (least_pair s k) (cond b (Some (record { cost = least; other_month = at })) None)
near_by s least at k true e small =
    let high = small.high in
    let is : int_lt s NO_PAIR ≡ true = grind (arith, ints) in
    rw is refl
near_by s least at k false e small =
    let high = small.high in
    let is : int_lt s NO_PAIR ≡ true = grind (arith, ints) in
    let far : NO_PAIR ≤ℤ least = grind (arith, ints, e) in
    let less : int_lt s least ≡ true = grind (arith, ints) in
    rw (less, is) refl

-- the cheaper one is of the lesser sum
pub least_step : (a b least : ℤ) (at k : ℕ) → IsSmall (cost_of_cell a) → IsSmall (cost_of_cell b) → least ≤ℤ NO_PAIR →
    cheaper_of (least_pair least at) (both a b) k ≡ lesser (a +ℤ b) k least at
least_step a b least at k h j near = elim (two_told a b h j) [
  | inl x ↦ ap (λ (c : Option ℤ). cheaper_of (least_pair least at) c k) x.1 ∙ far_step (a +ℤ b) least at k near x.0
  | inr x ↦ ap (λ (c : Option ℤ). cheaper_of (least_pair least at) c k) x.1
      ∙ near_by (a +ℤ b) least at k (int_lt least NO_PAIR) refl x.0
]

-- ---- cells of a row

pub told_at : (cells : List ℤ) (n : ℕ) → cost_of_cell (cell_at cells n) ≡ cost_at (costs_of cells) n
told_at [] n = refl
told_at (x ∷ cells) zero = refl
told_at (x ∷ cells) (suc n) = told_at cells n

pub small_at : (costs : List (Option ℤ)) (n : ℕ) → AreOrderPrices costs → IsSmall (cost_at costs n)
small_at [] n h = tt
small_at (x ∷ xs) zero h = h 0 x (omega arith)
small_at (x ∷ xs) (suc n) h = small_at xs n (All-tail IsSmall x xs h)

pub told_there : (cells : List ℤ) (k : ℕ) (d : ℤ) → k < length cells
    → cost_of_cell (get_or cells k d) ≡ cost_at (costs_of cells) k
told_there [] k d lt = absurd (omega (arith, lt))
told_there (c ∷ cells) zero d lt = refl
told_there (c ∷ cells) (suc k) d lt = told_there cells k d (omega (arith, lt))

pub small_there : (cells : List ℤ) (k : ℕ) (d : ℤ) → k < length cells → AreOrderPrices (costs_of cells)
    → IsSmall (cost_of_cell (get_or cells k d))
small_there cells k d lt h = subst IsSmall (sym (told_there cells k d lt)) (small_at (costs_of cells) k h)

pub length_told : (cells : List ℤ) → length (costs_of cells) ≡ length cells
length_told [] = refl
length_told (c ∷ cells) = ap suc (length_told cells)

pub told_past : (cells : List ℤ) (k : ℕ) → length cells ≤ k → cost_at (costs_of cells) k ≡ None
told_past cells k past = ap joined (slice_get_past (costs_of cells) k
    (let n = length_told cells in omega (arith, n, past)))

taken_told : (cells : List ℤ) (n k : ℕ) → k < n → cost_at (costs_of (take n cells)) k ≡ cost_at (costs_of cells) k
taken_told cells zero k lt = absurd (omega (arith, lt))
taken_told [] (suc n) k lt = refl
taken_told (x ∷ cells) (suc n) zero lt = refl
taken_told (x ∷ cells) (suc n) (suc k) lt = taken_told cells n k (omega (arith, lt))

dropped_told : (cells : List ℤ) (f k : ℕ) → cost_at (costs_of (drop f cells)) k ≡ cost_at (costs_of cells) (f + k)
dropped_told cells zero k = ap (cost_at (costs_of cells)) (omega arith)
dropped_told [] (suc f) k = refl
dropped_told (x ∷ cells) (suc f) k = let on : suc (f + k) ≡ suc f + k = omega arith in dropped_told cells f k
    ∙ ap (cost_at (costs_of (x ∷ cells))) on

pub row_told : (cells row : List ℤ) (f n k : ℕ) → row ≡ take n (drop f cells) → k < n
    → cost_at (costs_of row) k ≡ cost_at (costs_of cells) (f + k)
row_told cells row f n k is lt = ap (λ (xs : List ℤ). cost_at (costs_of xs) k) is
    ∙ (taken_told (drop f cells) n k lt ∙ dropped_told cells f k)

pub row_small : (cells row : List ℤ) (f n : ℕ) → row ≡ take n (drop f cells) → AreOrderPrices (costs_of cells)
    → AreOrderPrices (costs_of row)
row_small cells row f n is h =
    let same : take n (drop f (costs_of cells)) ≡ costs_of row = ap (take n) (drop-map cost_of_cell f cells)
    ∙ (take-map cost_of_cell n (drop f cells) ∙ ap costs_of (sym is)) in
    subst AreOrderPrices same (All-take IsSmall n (drop f (costs_of cells)) (All-drop IsSmall f (costs_of cells) h))

-- ---- cells that are put

pub put_told : (cells : List ℤ) (n : ℕ) (cost : Option ℤ) → IsSmall cost
    → costs_of (slice_set cells n (unwrap_or cost NO_COST)) ≡ slice_set (costs_of cells) n cost
put_told cells n cost h = map-set cost_of_cell cells n (unwrap_or cost NO_COST)
    ∙ ap (slice_set (costs_of cells) n) (cell_told cost h)

taken_whole : (cells rest : List ℤ) (n : ℕ) → n ≡ length cells → take n (cells ++ rest) ≡ cells
taken_whole [] rest n e = subst (λ (k : ℕ). take k rest ≡ []) (sym e) refl
taken_whole (c ∷ cells) rest n e = subst (λ (k : ℕ). take k (c ∷ (cells ++ rest)) ≡ c ∷ cells) (sym e)
    (ap (λ (xs : List ℤ). c ∷ xs) (taken_whole cells rest (length cells) refl))

-- the items of a vector whose slice was changed
pub items_put : (was new items : List ℤ) (len n : ℕ) (v : ℤ) → new ≡ slice_set was n v → was ≡ items → length was ≡ len
    → take len (new ++ drop (length new) items) ≡ slice_set items n v
items_put was new items len n v is same count =
    let kept : length (slice_set was n v) ≡ length was = length-set was n v in
    let there = ap length is in
    taken_whole new (drop (length new) items) len (omega (arith, kept, there, count))
    ∙ (is ∙ ap (λ (xs : List ℤ). slice_set xs n v) same)

pub none_told : (n : ℕ) → costs_of (replicate n NO_COST) ≡ replicate n None
none_told zero = refl
none_told (suc n) = ap (λ (cs : List (Option ℤ)). None ∷ cs) (none_told n)

pub none_small : (n : ℕ) → AreOrderPrices (costs_of (replicate n NO_COST))
none_small n = subst AreOrderPrices (sym (none_told n)) (All-replicate IsSmall n None tt)

-- ---- past the last month of a row

by_test : (k n : ℕ) (b : Bool) → nat_lt k n ≡ b → (k < n) ⊎ (n ≤ k)
by_test k n true e = inl (grind (arith, nat_tests, e))
by_test k n false e = inr (grind (arith, nat_tests, e))

either : (k n : ℕ) → (k < n) ⊎ (n ≤ k)
either k n = by_test k n (nat_lt k n) refl

none_second : (o : Option ℤ) → sum_of o None ≡ None
none_second None = refl
none_second (Some c) = refl

-- a month that one of two rows does not have
pub past_rows : (xs ys : List ℤ) (n k : ℕ) → n ≡ min (length xs) (length ys) → n ≤ k
    → sum_of (cost_at (costs_of xs) k) (cost_at (costs_of ys) k) ≡ None
past_rows xs ys n k is past = elim (either k (length xs)) [
  | inl under ↦ ap (sum_of (cost_at (costs_of xs) k)) (told_past ys k (omega (arith, is, past, under)))
      ∙ none_second (cost_at (costs_of xs) k)
  | inr over ↦ ap (λ (o : Option ℤ). sum_of o (cost_at (costs_of ys) k)) (told_past xs k over)
]

-- months of no cost change nothing
pub rest_none : (on : Pairs) (xs : List Order) (s : Side) (m n months : ℕ) (rows : CostRows) (least : Option PairCost)
    → AreFrontCosts on months xs rows → m < months → n ≤ months →
    ((k : ℕ) → n ≤ k → k < months → pair_cost_in rows s m k ≡ None) → IsCheapest on xs s m n least
    → IsCheapest on xs s m months least
rest_none on xs s m n months rows least told lt most none h = record {
  fronts = h.fronts;
  small = h.small;
  below = IfSome_then least h.below (λ (l : PairCost) (b : l.other_month < n). omega (arith, b, most));
  covers = λ k a b below p. elim (either k n) [
    | inl under ↦ h.covers k a b under p
    | inr past ↦ absurd (subst (CostsOfFronts on xs s m k) (none k past below)
        (pair_costs on months xs rows s m k told lt below) a b p)
  ];
}

-- where two rows end, no month that they lack costs anything
pub row_ended : (on : Pairs) (xs : List Order) (s : Side) (m n months : ℕ) (rows : CostRows)
    (spreads outrights : List ℤ) (least : Option PairCost) → AreFrontCosts on months xs rows → m < months →
    n ≡ min (length spreads) (length outrights) → length spreads ≤ months →
    ((k : ℕ) → k < months → cost_at (costs_of spreads) k ≡ spread_cost rows s m k)
    → ((k : ℕ) → k < months → cost_at (costs_of outrights) k ≡ outright_cost rows s k) →
    IsCheapest on xs s m n least → IsCheapest on xs s m months least
row_ended on xs s m n months rows spreads outrights least told lt end most first second h =
    rest_none on xs s m n months rows least told lt (omega (arith, end, most))
    (λ k past below.
    ap (λ (o : Option ℤ). sum_of o (outright_cost rows s k)) (sym (first k below))
    ∙ (ap (sum_of (cost_at (costs_of spreads) k)) (sym (second k below)) ∙ past_rows spreads outrights n k end past))
    h

-- ---- one more month of a row

pub least_more : (on : Pairs) (xs : List Order) (s : Side) (m k months : ℕ) (rows : CostRows) (a b least : ℤ) (at : ℕ)
    → AreFrontCosts on months xs rows → m < months → k < months →
    cost_of_cell a ≡ spread_cost rows s m k → cost_of_cell b ≡ outright_cost rows s k → IsSmall (cost_of_cell a)
    → IsSmall (cost_of_cell b) → least ≤ℤ NO_PAIR →
    IsCheapest on xs s m k (least_pair least at) → IsCheapest on xs s m (k + 1) (lesser (a +ℤ b) k least at)
least_more on xs s m k months rows a b least at told lt below first second h j near was =
    let sum : both a b ≡ pair_cost_in rows s m k = ap (λ (o : Option ℤ). sum_of o (cost_of_cell b)) first
    ∙ ap (sum_of (spread_cost rows s m k)) second in
    subst (IsCheapest on xs s m (k + 1)) (least_step a b least at k h j near)
    (cheapest_more on xs s m k (least_pair least at) (both a b) was
    (subst (CostsOfFronts on xs s m k) (sym sum) (pair_costs on months xs rows s m k told lt below))
    (sum_small a b h j))

pub lesser_then : (sum least new : ℤ) (k at now : ℕ) → int_lt sum least ≡ true → new ≡ sum → now ≡ k
    → lesser sum k least at ≡ least_pair new now
lesser_then sum least new k at now less is there = rw (less, is, there) refl

pub lesser_else : (sum least new : ℤ) (k at now : ℕ) → int_lt sum least ≡ false → new ≡ least → now ≡ at
    → lesser sum k least at ≡ least_pair new now
lesser_else sum least new k at now less is there = rw (less, is, there) refl

pub near_then : (sum least new : ℤ) → int_lt sum least ≡ true → new ≡ sum → least ≤ℤ NO_PAIR → new ≤ℤ NO_PAIR
near_then sum least new less is near = subst (λ (z : ℤ). z ≤ℤ NO_PAIR) (sym is) (grind (arith, ints, less))

-- ---- a row that is put

pub cells_put : (was new items : List ℤ) (len n at : ℕ) (cost : Option ℤ)
    → new ≡ slice_set was n (unwrap_or cost NO_COST) → n ≡ at → was ≡ items → length was ≡ len → IsSmall cost →
    costs_of (take len (new ++ drop (length new) items)) ≡ slice_set (costs_of items) at cost
cells_put was new items len n at cost is there same count small =
    ap costs_of (items_put was new items len at (unwrap_or cost NO_COST)
    (is ∙ ap (λ (i : ℕ). slice_set was i (unwrap_or cost NO_COST)) there) same count)
    ∙ put_told items at cost small

pub cells_small : (was new items : List ℤ) (len n at : ℕ) (cost : Option ℤ)
    → new ≡ slice_set was n (unwrap_or cost NO_COST) → n ≡ at → was ≡ items → length was ≡ len → IsSmall cost →
    AreOrderPrices (costs_of items) → AreOrderPrices (costs_of (take len (new ++ drop (length new) items)))
cells_small was new items len n at cost is there same count small h =
    subst AreOrderPrices (sym (cells_put was new items len n at cost is there same count small))
    (All-set IsSmall (costs_of items) at cost small h)

pub set_if_small : (b : Bool) (costs : List (Option ℤ)) (n : ℕ) (cost : Option ℤ) → IsSmall cost → AreOrderPrices costs
    → AreOrderPrices (set_if b costs n cost)
set_if_small true costs n cost small h = All-set IsSmall costs n cost small h
set_if_small false costs n cost small h = h

pub rows_are : (a b c d : List (Option ℤ)) → a ≡ b → c ≡ d
    → ◌≡◌ {A = CostRows} (record { spreads = a; outrights = c }) (record { spreads = b; outrights = d })
rows_are a b c d e f = cc

pub spread_put : (rows : CostRows) (side : Side) (near far : ℕ) (cost : Option ℤ) → near ≤ far →
    ◌≡◌ {A = CostRows} (record {
      spreads = slice_set (set_if (nat_lt near far) rows.spreads
          (row_cell (other_side side) near far) cost) (row_cell side far near) cost;
      outrights = rows.outrights;
    })
    (with_spread_cost rows side near far cost)
spread_put rows side near far cost h = let order : nat_lt far near ≡ false = grind (arith, nat_tests, h) in
    rw order refl

none_taken : (n : ℕ) → ◌≡◌ {A = List ℤ} (take n []) []
none_taken zero = refl
none_taken (suc n) = refl

-- the items of a vector that has grown from none
pub resized : (items : List ℤ) (n len : ℕ) → items ≡ [] → len ≡ 0 → take n items
    ++ replicate (n - len) NO_COST ≡ replicate n NO_COST
resized items n len none zero_long =
    let start : take n items ≡ [] = ap (take n) none ∙ none_taken n in
    let count : n - len ≡ n = omega (arith, zero_long) in
    rw (start, count) refl
