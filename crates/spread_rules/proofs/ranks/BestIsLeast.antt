-- the best candidate, by ranks that are lists of integers, is the least by ranks that are records
use Rattle.std.proofs.Common.{◌≡◌, ℕ, ◌<◌, ℤ, pos, Bool, true, false, cond, List, [], ◌∷◌, Option, Some, None, fold, refl, sym, ap, ◌∙◌, arith, Less, Equal, Greater}
use Rattle.std.proofs.lemmas.Cmp.{ranked}
use Rattle.std.proofs.lemmas.Int.{ints}
use Rattle.std.specs.Prelude.{◌<ℤ◌, neg_ℤ, if◌then◌else◌}
use Rattle.std.specs.Cmp.{int_cmp_is}
use Rattle.std.specs.Cmp.Lexicographic.{slice_cmp}
use Rattle.std.specs.List.{cons_option, filter, filter_map, reduce}
use Rattle.std.specs.Option.{option_map}
use Rattle.std.specs.Ordering.{MatchOrdering, nat_cmp, int_cmp, ordering_then, is_lt}
use Rattle.std.specs.declared.cmp.Ordering.{Ordering}
use Rattle.spread_rules_rulebook.specs.Instruments.{month_of}
use Rattle.spread_rules.specs.declared.order.Order.{Order}
use Rattle.spread_rules.specs.declared.order.Side.{Side}
use Rattle.spread_rules.specs.declared.order.Side.TheVariants.{Buy, Sell}
use Rattle.spread_rules.specs.declared.candidate.Candidate.{Candidate}
use Rattle.spread_rules.specs.declared.candidate.Counterparty.{Counterparty}
use Rattle.spread_rules.specs.declared.candidate.Counterparty.TheVariants.{Direct, Implied}
use Rattle.spread_rules.specs.Candidates.{Pairs, meeting, precedence, rank, best_candidate, is_within_limit, price_of, cost, rank_at, rank_cmp, is_before}
use Rattle.spread_rules.specs.code.Candidates.{candidate_at, candidate_of, better_by, counterparties, least_candidate}
use Rattle.spread_rules.specs.Legs.{is_side}

-- ---- numbers rank as integers do

below_as_integers : (i j : ℕ) → i < j → pos i <ℤ pos j
below_as_integers i j h = omega (arith, ints)

as_integers_at : (i j : ℕ) (r : Ordering) → MatchOrdering r (i < j) (i ≡ j) (j < i)
    → MatchOrdering r (pos i <ℤ pos j) (pos i ≡ pos j) (pos j <ℤ pos i)
as_integers_at i j Less h = below_as_integers i j h
as_integers_at i j Equal h = ap (λ (k : ℕ). pos k) h
as_integers_at i j Greater h = below_as_integers j i h

as_integers : (i j : ℕ) → nat_cmp i j ≡ int_cmp (pos i) (pos j)
as_integers i j = int_cmp_is (pos i) (pos j) (nat_cmp i j)
    (as_integers_at i j (nat_cmp i j) (ranked i j (nat_cmp i j) refl))

-- ---- candidates rank alike by both

then_equal : (o : Ordering) → o ≡ ordering_then o Equal
then_equal Less = refl
then_equal Equal = refl
then_equal Greater = refl

one_place : (i j : ℕ) → ordering_then (nat_cmp i j) Equal ≡ ordering_then (int_cmp (pos i) (pos j)) Equal
one_place i j = ap (λ (o : Ordering). ordering_then o Equal) (as_integers i j)

month_and_places : (m n i j k l : ℕ) →
    ordering_then (nat_cmp m n) (ordering_then (nat_cmp i j) (nat_cmp k l))
    ≡ ordering_then (int_cmp (pos m) (pos n)) (ordering_then (int_cmp (pos i) (pos j))
    (ordering_then (int_cmp (pos k) (pos l)) Equal))
month_and_places m n i j k l =
    ap (λ (o : Ordering). ordering_then o (ordering_then (nat_cmp i j) (nat_cmp k l))) (as_integers m n)
    ∙ (ap (λ (o : Ordering). ordering_then (int_cmp (pos m) (pos n)) (ordering_then o (nat_cmp k l))) (as_integers i j)
    ∙ ap (λ (o : Ordering). ordering_then (int_cmp (pos m) (pos n)) (ordering_then (int_cmp (pos i) (pos j)) o))
    (as_integers k l ∙ then_equal (int_cmp (pos k) (pos l))))

at_costs : (x y : ℤ) (p q : Counterparty) → rank_cmp (rank_at x p) (rank_at y q) ≡ slice_cmp int_cmp (x ∷ precedence p)
    (y ∷ precedence q)
at_costs x y (Direct a) (Direct b) = ap (ordering_then (int_cmp x y)) (one_place a.place b.place)
at_costs x y (Direct a) (Implied b c) = refl
at_costs x y (Implied a b) (Direct c) = refl
at_costs x y (Implied a b) (Implied c d) = ap (ordering_then (int_cmp x y))
    (month_and_places (month_of b.instrument) (month_of d.instrument) a.place c.place b.place d.place)

cost_is : (side : Side) (price : ℤ) → cost side price ≡ (if is_side side Buy then price else neg_ℤ price)
cost_is Buy price = refl
cost_is Sell price = refl

rank_alike : (n : Order) (p q : Candidate) → is_before n p q ≡ is_lt (slice_cmp int_cmp (rank n p) (rank n q))
rank_alike n p q =
    ap is_lt
    (at_costs (cost n.side p.price) (cost n.side q.price) p.counterparty q.counterparty
    ∙ (ap (λ (x : ℤ). slice_cmp int_cmp (x ∷ precedence p.counterparty)
    (cost n.side q.price ∷ precedence q.counterparty)) (cost_is n.side p.price)
    ∙ ap (λ (y : ℤ). slice_cmp int_cmp (rank n p) (y ∷ precedence q.counterparty)) (cost_is n.side q.price)))

-- ---- the first of those that a list gives, by its fold

module _ {P O : Type 0} (before : O → O → Bool) (f : P → Option O) where
  abbrev step_by : Option O → P → Option O
  step_by best p = better_by before best (f p)

  abbrev first_of : O → O → O
  first_of p q = if before q p then q else p

  chosen : (o q : O) (ps : List P) (b : Bool) → ((r : O)
      → fold step_by (Some r) ps ≡ Some (fold first_of r (filter_map f ps)))
      → fold step_by (cond b (Some q) (Some o)) ps ≡ Some (fold first_of (cond b q o) (filter_map f ps))
  chosen o q ps true on = on q
  chosen o q ps false on = on o

  one_more : (o : O) (ps : List P) (r : Option O) → ((r : O)
      → fold step_by (Some r) ps ≡ Some (fold first_of r (filter_map f ps)))
      → fold step_by (better_by before (Some o) r) ps ≡ Some (fold first_of o (cons_option r (filter_map f ps)))
  one_more o ps None on = on o
  one_more o ps (Some q) on = chosen o q ps (before q o) on

  from_some : (ps : List P) (o : O) → fold step_by (Some o) ps ≡ Some (fold first_of o (filter_map f ps))
  from_some [] o = refl
  from_some (p ∷ ps) o = one_more o ps (f p) (λ (r : O). from_some ps r)

  from_first : (ps : List P) (r : Option O) → fold step_by None ps ≡ reduce first_of (filter_map f ps)
      → fold step_by (better_by before None r) ps ≡ reduce first_of (cons_option r (filter_map f ps))
  from_first ps None on = on
  from_first ps (Some q) on = from_some ps q

  fold_is : (ps : List P) → fold step_by None ps ≡ reduce first_of (filter_map f ps)
  fold_is [] = refl
  fold_is (p ∷ ps) = from_first ps (f p) (fold_is ps)

-- ---- who is eligible, of those that meet the order

abbrev within : Order → Candidate → Bool
within n p = is_within_limit n.side n.price p.price

one_allowed : (p : Candidate) (os us : List Candidate) (b : Bool) → os ≡ us
    → cons_option (if b then Some p else None) os ≡ cond b (p ∷ us) us
one_allowed p os us true e = ap (λ (xs : List Candidate). p ∷ xs) e
one_allowed p os us false e = e

one_meeting : (n : Order) (p : Counterparty) (price : Option ℤ) (os ms : List Candidate) → os ≡ filter (within n) ms →
    cons_option (candidate_at n p price) os ≡ filter (within n)
    (cons_option (option_map (λ (at : ℤ). record { price = at; counterparty = p }) price) ms)
one_meeting n p None os ms e = e
one_meeting n p (Some at) os ms e = one_allowed (record { price = at; counterparty = p }) os (filter (within n) ms)
    (is_within_limit n.side n.price at) e

eligible_are : (on : Pairs) (n : Order) (ps : List Counterparty)
    → filter_map (candidate_of on n) ps ≡ filter (within n) (filter_map (meeting on n) ps)
eligible_are on n [] = refl
eligible_are on n (p ∷ ps) = one_meeting n p (price_of on n p) (filter_map (candidate_of on n) ps)
    (filter_map (meeting on n) ps) (eligible_are on n ps)

-- ---- the best

first_alike : (n : Order) (os : List Candidate) → reduce (λ (p q : Candidate). if is_before n q p then q else p) os ≡
    reduce (λ (p q : Candidate). if is_lt (slice_cmp int_cmp (rank n q) (rank n p)) then q else p) os
first_alike n os = λ i. reduce (λ (p q : Candidate). if rank_alike n q p i then q else p) os

pub best_is : (on : Pairs) (n : Order) (xs : List Order)
    → best_candidate on n xs ≡ least_candidate on n (counterparties xs)
best_is on n xs =
    sym (fold_is (is_before n) (candidate_of on n) (counterparties xs)
    ∙ (first_alike n (filter_map (candidate_of on n) (counterparties xs))
    ∙ ap (reduce (λ (p q : Candidate). if is_lt (slice_cmp int_cmp (rank n q) (rank n p)) then q else p))
    (eligible_are on n (counterparties xs))))
