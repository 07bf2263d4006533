-- turns end, keep the list quiet, and leave what the new order is
use Rattle.std.proofs.Common.{◌≡◌, ℕ, zero, suc, ◌==◌, ◌-◌, ◌<◌, ◌≤◌, ℤ, Bool, true, false, not, cond, List, [], ◌∷◌, ◌++◌, map, filter, fold, length, Contains, Option, Some, None, ◌⊎◌, inl, inr, refl, subst, sym, ap, ◌∙◌, arith, MatchOption, min}
use Rattle.std.proofs.lemmas.Bool.Decides.{nat_tests}
use Rattle.spread_rules.specs.declared.order.Order.{Order}
use Rattle.spread_rules.specs.declared.candidate.Candidate.{Candidate}
use Rattle.spread_rules.specs.declared.candidate.Counterparty.{Counterparty}
use Rattle.spread_rules.specs.declared.candidate.Counterparty.TheVariants.{Direct, Implied}
use Rattle.spread_rules.specs.code.Cases.{with_less_left}
use Rattle.spread_rules.specs.Candidates.{IsLeast, least_left, AllStandIn, price_of, members}
use Rattle.spread_rules.specs.code.Candidates.{least_candidate, counterparties}
use Rattle.spread_rules.specs.Clearing.{Trading, after_fill, removed, reduced}
use Rattle.spread_rules.specs.code.Clearing.{next_candidate, turn, turns, after_match}
use Rattle.spread_rules.specs.Quiet.{IsQuiet}
use Rattle.spread_rules_rulebook.proofs.lists.Membership.{not_in_nil, in_head, in_tail, in_cons_cases, from_map, in_map}
use Rattle.spread_rules.proofs.ranks.PlainIsLeast.{first_is_least}
use Rattle.spread_rules.proofs.clearings.StaysQuiet.{NoneFor, ComeFrom, come_itself, come_on, quiet_less, quiet_with}
use Rattle.spread_rules.specs.Candidates.{Pairs}

-- ---- one order of a list

kept_in : (x : Order) (ys xs : List Order) (o : Order) (b : Bool) → (Contains ys o → Contains xs o)
    → Contains (cond b (x ∷ ys) ys) o → Contains (x ∷ xs) o
kept_in x ys xs o true on c = elim (in_cons_cases x ys o c)
    [ inl e ↦ subst (Contains (x ∷ xs)) e (in_head x xs) | inr d ↦ in_tail x xs o (on d) ]
kept_in x ys xs o false on c = in_tail x xs o (on c)

pub from_filter : (p : Order → Bool) (xs : List Order) (o : Order) → Contains (filter p xs) o → Contains xs o
from_filter p [] o c = c
from_filter p (x ∷ xs) o c = kept_in x (filter p xs) xs o (p x) (from_filter p xs o) c

pub less_place : (place by : ℕ) (o : Order) (b : Bool)
    → (cond b (record o { leaves = o.leaves - by }) o).place ≡ o.place
less_place place by o true = refl
less_place place by o false = refl

module _ (on : Pairs) where
  -- ---- where orders come from

  pub come_removed : (place : ℕ) (xs : List Order) → ComeFrom on xs (removed place xs)
  come_removed place xs = record {
    each = λ of side o r. (
      o,
      record {
        stands = from_filter (λ (p : Order). not (p.place == place)) xs o r.stands;
        instrument_is =
            r.instrument_is;
        side_is = r.side_is;
      },
      refl,
    );
  }

  -- what loses some keeps the rest
  less_instrument : (place by : ℕ) (o : Order) (b : Bool)
      → (cond b (record o { leaves = o.leaves - by }) o).instrument ≡ o.instrument
  less_instrument place by o true = refl
  less_instrument place by o false = refl

  less_side : (place by : ℕ) (o : Order) (b : Bool) → (cond b (record o { leaves = o.leaves - by }) o).side ≡ o.side
  less_side place by o true = refl
  less_side place by o false = refl

  less_price : (place by : ℕ) (o : Order) (b : Bool) → (cond b (record o { leaves = o.leaves - by }) o).price ≡ o.price
  less_price place by o true = refl
  less_price place by o false = refl

  come_reduced : (place by : ℕ) (xs : List Order) → ComeFrom on xs (reduced place by xs)
  come_reduced place by xs = record {
    each = λ of side o r.
        let m = from_map (with_less_left place by) xs o r.stands in (
          m.0,
          record {
            stands = m.1;
            instrument_is = sym (less_instrument place by m.0 (m.0.place == place))
                ∙ (ap (λ (w : Order). w.instrument) m.2 ∙ r.instrument_is);
            side_is =
                sym (less_side place by m.0 (m.0.place == place)) ∙ (ap (λ (w : Order). w.side) m.2 ∙ r.side_is);
          },
          sym (less_price place by m.0 (m.0.place == place)) ∙ ap (λ (w : Order). w.price) m.2,
        );
  }

  come_fill : (q : ℕ) (xs : List Order) (m : Order) (b : Bool)
      → ComeFrom on xs (cond b (removed m.place xs) (reduced m.place q xs))
  come_fill q xs m true = come_removed m.place xs
  come_fill q xs m false = come_reduced m.place q xs

  come_members : (q : ℕ) (xs : List Order) (p : Counterparty) → ComeFrom on xs (fold (after_fill q) xs (members p))
  come_members q xs (Direct o) = come_fill q xs o (o.leaves == q)
  come_members q xs (Implied a b) = come_on on xs (after_fill q xs a) (after_fill q (after_fill q xs a) b)
      (come_fill q xs a (a.leaves == q)) (come_fill q (after_fill q xs a) b (b.leaves == q))

  -- ---- what turns keep

  -- the orders come from those before, and the new order is the same but for what is left
  pub record Keeps (s t : Trading) : Type 0 where
    pub orders : ComeFrom on s.orders t.orders
    pub new : t.new ≡ record s.new { leaves = t.new.leaves }

  keeps_traded : (references : List ℤ) (s : Trading) (o : Option Candidate) → Keeps s (after_match references s o)
  keeps_traded references s None = record { orders = come_itself on s.orders; new = refl }
  keeps_traded references s (Some o) = record {
    orders =
        come_members (least_left s.new o.counterparty) s.orders o.counterparty;
    new = refl;
  }

  pub keeps_turns : (references : List ℤ) (k : ℕ) (s : Trading) → Keeps s (turns on references k s)
  keeps_turns references zero s = record { orders = come_itself on s.orders; new = refl }
  keeps_turns references (suc k) s =
      let one = keeps_traded references s (next_candidate on s) in
      let more = keeps_turns references k (turn on references s) in
      record {
        orders = come_on on s.orders (turn on references s).orders (turns on references k (turn on references s)).orders
            one.orders more.orders;
        new = more.new ∙ ap (λ (w : Order). record w {
          leaves =
              (turns on references k (turn on references s)).new.leaves;
        }) one.new;
      }

  -- ---- where turns end

  -- no next, with something left: nobody is eligible
  none_left : (s : Trading) (b : Bool) → (s.new.leaves == 0) ≡ b → next_candidate on s ≡ None → 0 < s.new.leaves
      → NoneFor on s.new s.orders
  none_left s true e h l = absurd (grind (arith, nat_tests))
  none_left s false e h l =
      let none : least_candidate on s.new (counterparties s.orders) ≡ None =
      subst (λ (b : Bool). cond b None (least_candidate on s.new (counterparties s.orders)) ≡ None) e h in
      subst (λ (r : Option Candidate). MatchOption r (NoneFor on s.new s.orders) (IsLeast on s.new s.orders)) none
      (first_is_least on s.new s.orders)

  pub nobody_left : (s : Trading) → next_candidate on s ≡ None → 0 < s.new.leaves → NoneFor on s.new s.orders
  nobody_left s h l = none_left s (s.new.leaves == 0) refl h l

  -- a quiet list is quiet after the turns, with what is left of the new order or without it
  pub quiet_after : (references : List ℤ) (k : ℕ) (s : Trading) → IsQuiet on s.orders
      → IsQuiet on (turns on references k s).orders
  quiet_after references k s q = quiet_less on s.orders (turns on references k s).orders
      (keeps_turns references k s).orders q

  pub quiet_resting : (references : List ℤ) (k : ℕ) (s : Trading) → IsQuiet on s.orders
      → next_candidate on (turns on references k s) ≡ None → 0 < (turns on references k s).new.leaves
      → IsQuiet on ((turns on references k s).orders ++ (turns on references k s).new ∷ [])
  quiet_resting references k s q h l = quiet_with on (turns on references k s).new (turns on references k s).orders
      (nobody_left (turns on references k s) h l) (quiet_after references k s q)

  -- ---- as many turns as orders rest are enough

  pub stays : (references : List ℤ) (k : ℕ) (s : Trading) → next_candidate on s ≡ None → turns on references k s ≡ s
  stays references zero s h = refl
  stays references (suc k) s h =
      let same : turn on references s ≡ s = ap (after_match references s) h in
      ap (turns on references k) same ∙ stays references k s h

  -- two ends of one run are one
  pub one_end : (references : List ℤ) (k j : ℕ) (s : Trading) → next_candidate on (turns on references k s) ≡ None
      → next_candidate on (turns on references j s) ≡ None → turns on references k s ≡ turns on references j s
  one_end references zero j s h g = sym (stays references j s h)
  one_end references (suc k) zero s h g = stays references (suc k) s g
  one_end references (suc k) (suc j) s h g = one_end references k j (turn on references s) h g

  -- removing one that rests makes the list shorter, and nothing makes it longer
  filter_length : (p : Order → Bool) (xs : List Order) → length (filter p xs) ≤ length xs
  filter_length p [] = omega arith
  filter_length p (x ∷ xs) = of (p x) (filter_length p xs) where
    of : (b : Bool) → length (filter p xs) ≤ length xs
        → length (cond b (x ∷ filter p xs) (filter p xs)) ≤ suc (length xs)
    of true h = omega arith
    of false h = omega arith

  shorter_at : (x : Order) (ys xs : List Order) (b : Bool) → length ys ≤ length xs
      → (b ≡ false) ⊎ (length ys < length xs) → length (cond b (x ∷ ys) ys) < suc (length xs)
  shorter_at x ys xs true h (inl e) = cc
  shorter_at x ys xs true h (inr l) = omega arith
  shorter_at x ys xs false h g = omega arith

  filter_shorter : (p : Order → Bool) (xs : List Order) (o : Order) → Contains xs o → p o ≡ false
      → length (filter p xs) < length xs
  filter_shorter p [] o c e = absurd (not_in_nil o c)
  filter_shorter p (x ∷ xs) o c e =
      shorter_at x (filter p xs) xs (p x) (filter_length p xs)
      (elim (in_cons_cases x xs o c) [ inl f ↦ inl (ap p f ∙ e) | inr d ↦ inr (filter_shorter p xs o d e) ])

  map_length : (f : Order → Order) (xs : List Order) → length (map f xs) ≡ length xs
  map_length f [] = refl
  map_length f (x ∷ xs) = ap (λ (k : ℕ). suc k) (map_length f xs)

  fill_length : (q : ℕ) (xs : List Order) (m : Order) (b : Bool)
      → length (cond b (removed m.place xs) (reduced m.place q xs)) ≤ length xs
  fill_length q xs m true = filter_length (λ (o : Order). not (o.place == m.place)) xs
  fill_length q xs m false = let e = map_length (with_less_left m.place q) xs in omega arith

  number_is : (k : ℕ) → (k == k) ≡ true
  number_is k = grind (arith, nat_tests)

  -- an order of that place is there
  pub record HasAt (xs : List Order) (place : ℕ) : Type 0 where
    pub order : Order
    pub stands : Contains xs order
    pub at : order.place ≡ place

  spent_shorter : (q : ℕ) (xs : List Order) (m : Order) (b : Bool) → b ≡ true → HasAt xs m.place
      → length (cond b (removed m.place xs) (reduced m.place q xs)) < length xs
  spent_shorter q xs m true e h =
      let at : (h.order.place == m.place) ≡ true = rw h.at (number_is m.place) in
      filter_shorter (λ (o : Order). not (o.place == m.place)) xs h.order h.stands (ap not at)
  spent_shorter q xs m false e h = cc

  -- whoever rests still has its place there, or the list is shorter already
  still_at : (q : ℕ) (xs : List Order) (a b : Order) (t : Bool) → Contains xs a → Contains xs b
      → (length (cond t (removed a.place xs) (reduced a.place q xs)) < length xs) ⊎ HasAt
      (cond t (removed a.place xs) (reduced a.place q xs)) b.place
  still_at q xs a b true ca cb = inl (spent_shorter q xs a true refl (record { order = a; stands = ca; at = refl }))
  still_at q xs a b false ca cb = inr (record {
    order = with_less_left a.place q b;
    stands =
        in_map (with_less_left a.place q) xs b cb;
    at = less_place a.place q b (b.place == a.place);
  })

  -- a turn after which something is left of the new order uses up a member
  second_shorter : (q : ℕ) (xs ys : List Order) (b : Order) (t : Bool) → t ≡ true → length ys ≤ length xs
      → (length ys < length xs) ⊎ HasAt ys b.place → length (cond t (removed b.place ys) (reduced b.place q ys)) <
      length xs
  second_shorter q xs ys b t e l (inl h) = let k = fill_length q ys b t in omega arith
  second_shorter q xs ys b t e l (inr h) = let k = spent_shorter q ys b t e h in omega arith

  first_shorter : (q : ℕ) (xs ys : List Order) (b : Order) (t : Bool) → length ys < length xs
      → length (cond t (removed b.place ys) (reduced b.place q ys)) < length xs
  first_shorter q xs ys b t h = let k = fill_length q ys b t in omega arith

  which : (k x y : ℕ) (b : Bool) → (x == min (min k x) y) ≡ b → min (min k x) y < k
      → ((x == min (min k x) y) ≡ true) ⊎ ((y == min (min k x) y) ≡ true)
  which k x y true e h = inl e
  which k x y false e h = inr (grind (arith, nat_tests))

  pub turn_shorter : (n : Order) (xs : List Order) (p : Counterparty) → AllStandIn xs p → least_left n p < n.leaves
      → length (fold (after_fill (least_left n p)) xs (members p)) < length xs
  turn_shorter n xs (Direct a) c h =
      let e : (a.leaves == min n.leaves a.leaves) ≡ true = grind (arith, nat_tests) in
      spent_shorter (min n.leaves a.leaves) xs a (a.leaves == min n.leaves a.leaves) e
      (record { order = a; stands = c; at = refl })
  turn_shorter n xs (Implied a b) c h =
      let q = min (min n.leaves a.leaves) b.leaves in
      let ys = after_fill q xs a in
      elim (which n.leaves a.leaves b.leaves (a.leaves == q) refl h) [
        | inl e ↦ first_shorter q xs ys b (b.leaves == q) (spent_shorter q xs a (a.leaves == q) e
            (record { order = a; stands = c.0; at = refl }))
        | inr e ↦ second_shorter q xs ys b (b.leaves == q) e (fill_length q xs a (a.leaves == q))
            (still_at q xs a b (a.leaves == q) c.0 c.1)
      ]

  none_next : (s : Trading) (b : Bool) → least_candidate on s.new (counterparties s.orders) ≡ None
      → cond b None (least_candidate on s.new (counterparties s.orders)) ≡ None
  none_next s true h = refl
  none_next s false h = h

  nobody : (n : Order) (xs : List Order) → length xs ≤ 0 → least_candidate on n (counterparties xs) ≡ None
  nobody n [] h = refl
  nobody n (x ∷ xs) h = absurd (omega arith)

  pub some_next : (s : Trading) (o : Candidate) (b : Bool)
      → cond b None (least_candidate on s.new (counterparties s.orders)) ≡ Some o
      → least_candidate on s.new (counterparties s.orders) ≡ Some o
  some_next s o true h = cc
  some_next s o false h = h

  pub members_rest : (s : Trading) (o : Candidate) → next_candidate on s ≡ Some o → AllStandIn s.orders o.counterparty
  members_rest s o h =
      let l : IsLeast on s.new s.orders o = subst (λ (r : Option Candidate). MatchOption r (NoneFor on s.new s.orders)
      (IsLeast on s.new s.orders)) (some_next s o (s.new.leaves == 0) h) (first_is_least on s.new s.orders) in
      l.eligible.stands

  -- what is next is eligible, and something is left of the new order
  pub next_least : (s : Trading) (o : Candidate) → next_candidate on s ≡ Some o → IsLeast on s.new s.orders o
  next_least s o h = subst (λ (r : Option Candidate). MatchOption r (NoneFor on s.new s.orders)
      (IsLeast on s.new s.orders)) (some_next s o (s.new.leaves == 0) h) (first_is_least on s.new s.orders)

  pub next_meets : (s : Trading) (o : Candidate) → next_candidate on s ≡ Some o
      → price_of on s.new o.counterparty ≡ Some o.price
  next_meets s o h = (next_least s o h).eligible.meets

  left_at : (s : Trading) (o : Candidate) (b : Bool) → (s.new.leaves == 0) ≡ b
      → cond b None (least_candidate on s.new (counterparties s.orders)) ≡ Some o → 0 < s.new.leaves
  left_at s o true e h = cc
  left_at s o false e h = grind (arith, nat_tests)

  pub next_left : (s : Trading) (o : Candidate) → next_candidate on s ≡ Some o → 0 < s.new.leaves
  next_left s o h = left_at s o (s.new.leaves == 0) refl h

  ended : (references : List ℤ) (s : Trading) (o : Candidate) (b : Bool)
      → ((s.new.leaves - least_left s.new o.counterparty) == 0) ≡ b → next_candidate on s ≡ Some o
      → (next_candidate on (after_match references s (Some o)) ≡ None) ⊎
      (length (after_match references s (Some o)).orders < length s.orders)
  ended references s o true e h = inl (rw e refl)
  ended references s o false e h = inr (turn_shorter s.new s.orders o.counterparty (members_rest s o h)
      (grind (arith, nat_tests)))

  enough_by : (references : List ℤ) (k : ℕ) (s : Trading) (r : Option Candidate) → next_candidate on s ≡ r
      → length s.orders ≤ suc k → ((t : Trading) → length t.orders ≤ k
      → next_candidate on (turns on references k t) ≡ None)
      → next_candidate on (turns on references k (after_match references s r)) ≡ None
  enough_by references k s None e h on = rw (stays references k s e) e
  enough_by references k s (Some o) e h on =
      elim (ended references s o ((s.new.leaves - least_left s.new o.counterparty) == 0) refl e) [
        | inl d ↦ rw (stays references k (after_match references s (Some o)) d) d
        | inr l ↦ on (after_match references s (Some o)) (omega arith)
      ]

  -- as many turns as orders rest are enough
  pub enough : (references : List ℤ) (k : ℕ) (s : Trading) → length s.orders ≤ k
      → next_candidate on (turns on references k s) ≡ None
  enough references zero s h = none_next s (s.new.leaves == 0) (nobody s.new s.orders h)
  enough references (suc k) s h = enough_by references k s (next_candidate on s) refl h (enough references k)
