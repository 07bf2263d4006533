-- ranks by queue: which there are after one came, or some went
use Rattle.std.proofs.Common.{unwrap_or, option_map, ◌≡◌, ℕ, ℤ, ◌<◌, ◌==◌, Bool, true, false, List, [], ◌∷◌, map, filter, length, get_or, set, Contains, Option, Some, None, refl, sym, ap, ◌∙◌, subst, arith, inl, inr, ◌⊎◌}
use Rattle.std.specs.List.{find}
use Rattle.std.specs.List.Sorted.{IsPermutation}
use Rattle.std.specs.Ordering.{is_lt, int_eq}
use Rattle.std.specs.declared.cmp.Reverse.{Reverse}
use Rattle.std.specs.BinaryHeap.{IsHeap, IsUpperBound, PopsGreatest, heap_items}
use Rattle.std.specs.declared.collections.BinaryHeap.{BinaryHeap}
use Rattle.std.specs.Option.{IfSome, IsSome, option_copied}
use denote.Ref.{Bor}
use Rattle.std.proofs.lemmas.Bool.{and_parts}
use Rattle.std.proofs.lemmas.Bool.Decides.{nat_tests}
use Rattle.std.proofs.lemmas.Int.{ints}
use Rattle.std.proofs.lemmas.List.{get_or-set_same, get_or-set_other, get_or_default, get_or-map, map-set, length-map}
use Rattle.std.proofs.lemmas.List.Sorted.{Contains-permutation, IsPermutation-sym, length_permutation}
use Rattle.std.proofs.lemmas.List.Elements.{All-from_recursion, All-contains}
use Rattle.spread_rules.specs.declared.order.Order.{Order}
use Rattle.spread_rules_rulebook.proofs.lists.Membership.{not_in_nil, in_head, in_tail, in_cons_cases, in_map, from_map}
use Rattle.spread_books_queues.specs.declared.queue_rank.QueueRank.{QueueRank}
use Rattle.spread_books_rows.specs.Places.{Ascends}
use Rattle.spread_books_queues.specs.QueueRanks.{queue_of, rank_of, rank_cmp, is_rank}
use Rattle.spread_books_queues.specs.code.Heaps.{top_cmp, ranks_in, ranks_at, Joins, SameRanks, IsLeast, IsRanked, is_of_rank, is_ranked, IsLed, HasThinned, ChangesQueue}
use Rattle.spread_books_rows.proofs.places.Ascending.{is_so, at_place, is_found}

-- ---- one heap, whose least rank is at the top

abbrev pub ranks : List (Reverse QueueRank) → List QueueRank
ranks rs = map (λ r. r.0) rs

module _ (a : Reverse QueueRank) (xs ys : List (Reverse QueueRank)) (pushed : IsPermutation (a ∷ xs) ys) where
  pub kept_by_push : (r : QueueRank) → Contains (ranks xs) r → Contains (ranks ys) r
  kept_by_push r c =
      let m = from_map (λ (x : Reverse QueueRank). x.0) xs r c in
      subst (λ (q : QueueRank). Contains (ranks ys) q) m.2
      (in_map (λ (x : Reverse QueueRank). x.0) ys m.0 (Contains-permutation (a ∷ xs) ys m.0 pushed
      (in_tail a xs m.0 m.1)))

  pub joined_by_push : Contains (ranks ys) a.0
  joined_by_push = in_map (λ (x : Reverse QueueRank). x.0) ys a
      (Contains-permutation (a ∷ xs) ys a pushed (in_head a xs))

  pub only_by_push : (r : QueueRank) → Contains (ranks ys) r → Contains (ranks xs) r ⊎ (r ≡ a.0)
  only_by_push r c =
      let m = from_map (λ (x : Reverse QueueRank). x.0) ys r c in
      elim (in_cons_cases a xs m.0 (Contains-permutation ys (a ∷ xs) m.0 (IsPermutation-sym (a ∷ xs) ys pushed) m.1)) [
        | inl e ↦ inr (sym m.2 ∙ ap (λ (x : Reverse QueueRank). x.0) (sym e))
        | inr d ↦ inl (subst (λ (q : QueueRank). Contains (ranks xs) q) m.2
            (in_map (λ (x : Reverse QueueRank). x.0) xs m.0 d))
      ]

-- another rank stays where the top went
pub kept_by_pop : (x : Reverse QueueRank) (xs ys : List (Reverse QueueRank)) → IsPermutation xs (x ∷ ys)
    → (r : QueueRank) → Contains (ranks xs) r → (x.0 ≡ r → ⊥) → Contains (ranks ys) r
kept_by_pop x xs ys popped r c other =
    let m = from_map (λ (y : Reverse QueueRank). y.0) xs r c in
    elim (in_cons_cases x ys m.0 (Contains-permutation xs (x ∷ ys) m.0 popped m.1)) [
      | inl e ↦ absurd (other (ap (λ (y : Reverse QueueRank). y.0) e ∙ m.2))
      | inr d ↦ subst (λ (q : QueueRank). Contains (ranks ys) q) m.2 (in_map (λ (y : Reverse QueueRank). y.0) ys m.0 d)
    ]

-- the greatest of a heap has the least rank
pub none_less : (x : Reverse QueueRank) (xs : List (Reverse QueueRank)) → IsUpperBound top_cmp x xs → (q : QueueRank)
    → Contains (ranks xs) q → is_lt (rank_cmp q x.0) ≡ false
none_less x xs h q c =
    let m = from_map (λ (y : Reverse QueueRank). y.0) xs q c in
    let all = All-from_recursion (λ (y : Reverse QueueRank). is_lt (top_cmp x y) ≡ false) xs h in
    subst (λ (p : QueueRank). is_lt (rank_cmp p x.0) ≡ false) m.2
    (All-contains (λ (y : Reverse QueueRank). is_lt (top_cmp x y) ≡ false) xs m.0 all m.1)

-- the top of a heap, as it was looked at
pub top_greatest : (p : Option (Bor (Reverse QueueRank))) (top : Reverse QueueRank) (xs : List (Reverse QueueRank))
    → option_copied p ≡ Some top
    → IfSome p (λ x. IsHeap top_cmp xs → IsUpperBound top_cmp x.now xs) → IsHeap top_cmp xs
    → IsUpperBound top_cmp top xs
top_greatest None top xs e h k = cc
top_greatest (Some x) top xs e h k = let same : x.now ≡ top = cc in
    subst (λ (t : Reverse QueueRank). IsUpperBound top_cmp t xs) same (h k)

-- where an order that rests has the top's rank, each rank is led by one
pub led : (xs : List Order) (queue : ℕ) (top : Reverse QueueRank) (rs : List (Reverse QueueRank))
    → IsUpperBound top_cmp top rs → IsRanked xs queue top.0
    → (r : QueueRank) → Contains (ranks rs) r → IsLed xs queue r
led xs queue top rs h (o, stands, own, e) r c = (
  o,
  stands,
  own,
  subst (λ (t : QueueRank). is_lt (rank_cmp r t) ≡ false) (sym e) (none_less top rs h r c),
)

-- the top goes, and no other rank
pub gone : (xs ys : List (Reverse QueueRank)) (p : Option (Bor (Reverse QueueRank))) (top : Reverse QueueRank)
    (r : Option (Reverse QueueRank)) → option_copied p ≡ Some top
    → IfSome p (λ x. x.now ≡ get_or xs 0 x.now) → IfSome r (λ x. x ≡ get_or xs 0 x)
    → IfSome r (λ x. IsPermutation xs (x ∷ ys))
    → IfSome r (λ x. PopsGreatest top_cmp xs x ys) → (IsSome p → IsSome r) → IsHeap top_cmp xs
    → IsHeap top_cmp ys × ((q : QueueRank) → Contains (ranks xs) q → (top.0 ≡ q → ⊥) → Contains (ranks ys) q)
gone xs ys None top r e l m n o v h = cc
gone xs ys (Some x) top None e l m n o v h = let k = v refl in cc
gone xs ys (Some x) top (Some y) e l m n o v h =
    let same : x.now ≡ top = cc in
    let some : 0 < length xs = let k = length_permutation xs (y ∷ ys) n in omega (arith, k) in
    let first : top ≡ y = sym same ∙ l ∙ get_or_default xs 0 x.now y some ∙ sym m in (
      (o h).0,
      λ q c other. kept_by_pop y xs ys n q c (λ d. other (ap (λ (t : Reverse QueueRank). t.0) first ∙ d)),
    )

-- ---- the heaps of all queues, of which one changed

-- what was said of equal ranks before
pub joins_from : (a b c : List (List QueueRank)) (queue : ℕ) (rank : QueueRank) → SameRanks a b → Joins queue rank b c
    → Joins queue rank a c
joins_from a b c queue rank same j = record {
  kept = λ n r d. j.kept n r (subst (λ (q : List QueueRank). Contains q r) (sym (same n)) d);
  joined = j.joined;
  only = λ n r d. elim (j.only n r d) [
    | inl e ↦ inl (subst (λ (q : List QueueRank). Contains q r) (same n) e)
    | inr e ↦
        inr e
  ];
}

queue_is : (n i : ℕ) → (n == i) ≡ true → n ≡ i
queue_is n i k = grind (arith, nat_tests, k)

is_another : (n i : ℕ) → (n == i) ≡ false → n ≡ i → ⊥
is_another n i k e = grind (arith, nat_tests, k, e)

module _ (heaps : List (List QueueRank)) (i : ℕ) (own : List QueueRank) (within : i < length heaps) where
  own_at : (n : ℕ) → n ≡ i → ranks_at (set heaps i own) n ≡ own
  own_at n e = ap (λ (m : ℕ). ranks_at (set heaps i own) m) e ∙ get_or-set_same heaps i own [] within

  other_at : (n : ℕ) → (n ≡ i → ⊥) → ranks_at (set heaps i own) n ≡ ranks_at heaps n
  other_at n other = get_or-set_other heaps i n own [] other

  pub joins : (rank : QueueRank) → ((r : QueueRank) → Contains (ranks_at heaps i) r → Contains own r)
      → Contains own rank
      → ((r : QueueRank) → Contains own r → Contains (ranks_at heaps i) r ⊎ (r ≡ rank))
      → Joins i rank heaps (set heaps i own)
  joins rank kept joined only = record {
    kept = λ n r c.
        elim (is_so (n == i)) [
          | inl k ↦ let e = queue_is n i k in subst (λ (q : List QueueRank). Contains q r) (sym (own_at n e))
              (kept r (subst (λ (m : ℕ). Contains (ranks_at heaps m) r) e c))
          | inr k ↦ subst (λ (q : List QueueRank). Contains q r) (sym (other_at n (is_another n i k))) c
        ];
    joined = subst (λ (q : List QueueRank). Contains q rank) (sym (own_at i refl)) joined;
    only = λ n r c.
        elim (is_so (n == i)) [
          | inl k ↦ let e = queue_is n i k in
              elim (only r (subst (λ (q : List QueueRank). Contains q r) (own_at n e) c)) [
                | inl d ↦ inl (subst (λ (m : ℕ). Contains (ranks_at heaps m) r) (sym e) d)
                | inr d ↦ inr (e, d)
              ]
          | inr k ↦ inl (subst (λ (q : List QueueRank). Contains q r) (other_at n (is_another n i k)) c)
        ];
  }

  pub same_ranks : own ≡ ranks_at heaps i → SameRanks heaps (set heaps i own)
  same_ranks e n = elim (is_so (n == i)) [
    | inl k ↦ let q = queue_is n i k in own_at n q ∙ e ∙ ap (λ (m : ℕ). ranks_at heaps m) (sym q)
    | inr k ↦ other_at n (is_another n i k)
  ]

  pub queue_changes : (So : List QueueRank → List QueueRank → Type 0) → So (ranks_at heaps i) own
      → ChangesQueue i So heaps (set heaps i own)
  queue_changes So h = record {
    others = λ n other. other_at n other;
    changed = subst (λ (q : List QueueRank). So (ranks_at heaps i) q) (sym (own_at i refl)) h;
  }

module _ {Z : Type 0} (heaps : List (BinaryHeap (Reverse QueueRank) Z)) (i : ℕ) (was : BinaryHeap (Reverse QueueRank) Z)
    (within : i < length heaps) (at : was ≡ get_or heaps i was) where
  ranks_was : ranks_at (map ranks_in heaps) i ≡ ranks_in was
  ranks_was = get_or-map ranks_in heaps i was [] within ∙ ap ranks_in (sym at)

  ranks_within : i < length (map ranks_in heaps)
  ranks_within = subst (λ (n : ℕ). i < n) (sym (length-map heaps ranks_in)) within

  pub least_of_heap : (x : Bor (Reverse QueueRank)) → IsHeap top_cmp (heap_items was)
      → x.now ≡ get_or (heap_items was) 0 x.now → 0 < length (heap_items was)
      → (IsHeap top_cmp (heap_items was) → IsUpperBound top_cmp x.now (heap_items was))
      → IsLeast (ranks_at (map ranks_in heaps) i) x.now.0
  least_of_heap x heap first some greatest =
      subst (λ (rs : List QueueRank). IsLeast rs x.now.0) (sym ranks_was) (
        in_map (λ (r : Reverse QueueRank). r.0) (heap_items was) x.now (0, some, sym first),
        none_less x.now (heap_items was) (greatest heap),
      )

  module _ (own : BinaryHeap (Reverse QueueRank) Z) where
    changed : map ranks_in (set heaps i own) ≡ set (map ranks_in heaps) i (ranks_in own)
    changed = map-set ranks_in heaps i own

    pub heap_joins : (a : Reverse QueueRank) → IsPermutation (a ∷ heap_items was) (heap_items own)
        → Joins i a.0 (map ranks_in heaps) (map ranks_in (set heaps i own))
    heap_joins a pushed =
        subst (λ (q : List (List QueueRank)). Joins i a.0 (map ranks_in heaps) q) (sym changed)
        (joins (map ranks_in heaps) i (ranks_in own) ranks_within a.0
        (λ r c. kept_by_push a (heap_items was) (heap_items own) pushed r
        (subst (λ (q : List QueueRank). Contains q r) ranks_was c))
        (joined_by_push a (heap_items was) (heap_items own) pushed)
        (λ r c. elim (only_by_push a (heap_items was) (heap_items own) pushed r c)
        [ inl d ↦ inl (subst (λ (q : List QueueRank). Contains q r) (sym ranks_was) d) | inr d ↦ inr d ]))

    pub heap_same : heap_items own ≡ heap_items was → SameRanks (map ranks_in heaps) (map ranks_in (set heaps i own))
    heap_same e = subst (λ (q : List (List QueueRank)). SameRanks (map ranks_in heaps) q) (sym changed)
        (same_ranks (map ranks_in heaps) i (ranks_in own) ranks_within (ap ranks e ∙ sym ranks_was))

    pub heap_changes : (So : List QueueRank → List QueueRank → Type 0) → So (ranks_in was) (ranks_in own)
        → ChangesQueue i So (map ranks_in heaps) (map ranks_in (set heaps i own))
    heap_changes So h =
        subst (λ (q : List (List QueueRank)). ChangesQueue i So (map ranks_in heaps) q) (sym changed)
        (queue_changes (map ranks_in heaps) i (ranks_in own) ranks_within So
        (subst (λ (q : List QueueRank). So q (ranks_in own)) (sym ranks_was) h))

-- ---- whether an order has a rank

abbrev rank_with : ℤ → ℕ → QueueRank
rank_with cost place = record { cost = cost; place = place }

same_rank : (a b : QueueRank) → is_rank a b ≡ true → a ≡ b
same_rank a b h =
    let p = and_parts (int_eq a.cost b.cost) (a.place == b.place) h in
    let x = p.0 in let y = p.1 in
    let cost : a.cost ≡ b.cost = grind (arith, ints, x) in
    let place : a.place ≡ b.place = grind (arith, nat_tests, y) in
    let same : rank_with a.cost a.place ≡ rank_with b.cost b.place = cc in
    same

rank_itself : (a : QueueRank) → is_rank a a ≡ true
rank_itself a =
    let cost : int_eq a.cost a.cost ≡ true = grind (arith, ints) in
    let place : (a.place == a.place) ≡ true = grind (arith, nat_tests) in
    rw (cost, place)

module _ (xs : List Order) (queue : ℕ) where
  ranked_itself : (o : Order) → Ascends xs → Contains xs o → queue_of o ≡ queue → is_ranked xs queue (rank_of o) ≡ true
  ranked_itself o up stands own =
      let q : (queue_of o == queue) ≡ true = grind (arith, nat_tests, own) in
      let r = rank_itself (rank_of o) in
      ap (λ (f : Option Order). unwrap_or (option_map (is_of_rank queue (rank_of o)) f) false) (is_found xs o up stands)
      ∙ rw (q, r)

  pub ranked_by_test : (rank : QueueRank) → is_ranked xs queue rank ≡ true → IsRanked xs queue rank
  ranked_by_test rank h = of_found (find (λ o. o.place == rank.place) xs) refl h
    where
      of_found : (f : Option Order) → find (λ o. o.place == rank.place) xs ≡ f
          → unwrap_or (option_map (is_of_rank queue rank) f) false ≡ true → IsRanked xs queue rank
      of_found None e t = cc
      of_found (Some o) e t =
          let p = and_parts (queue_of o == queue) (is_rank (rank_of o) rank) t in
          let here = p.0 in
          let own : queue_of o ≡ queue = grind (arith, nat_tests, here) in
          (o, (at_place xs rank.place o e).0, own, same_rank (rank_of o) rank p.1)

  -- where no order is found by a rank, none has it
  pub of_nobody : (rank : QueueRank) → Ascends xs → is_ranked xs queue rank ≡ false → (o : Order) → Contains xs o
      → queue_of o ≡ queue → rank_of o ≡ rank → ⊥
  of_nobody rank up h o stands own same =
      let t : is_ranked xs queue rank ≡ true = subst (λ (r : QueueRank). is_ranked xs queue r ≡ true) same
      (ranked_itself o up stands own) in
      cc

-- ---- of all ranks those whose orders rest

module _ (test : Reverse QueueRank → Bool) where
  in_kept : (xs : List (Reverse QueueRank)) (x : Reverse QueueRank) → Contains xs x → test x ≡ true
      → Contains (filter test xs) x
  in_kept [] x c t = absurd (not_in_nil x c)
  in_kept (y ∷ ys) x c t =
      elim (in_cons_cases y ys x c) [
        | inl e ↦ let k : test y ≡ true = ap test e ∙ t in
            rw k (subst (λ (p : Reverse QueueRank). Contains (y ∷ filter test ys) p) e (in_head y (filter test ys)))
        | inr d ↦ elim (is_so (test y)) [
          | inl k ↦ rw k (in_tail y (filter test ys) x (in_kept ys x d t))
          | inr k ↦
              rw k (in_kept ys x d t)
        ]
      ]

  from_kept : (xs : List (Reverse QueueRank)) (x : Reverse QueueRank) → Contains (filter test xs) x → Contains xs x
  from_kept [] x c = c
  from_kept (y ∷ ys) x c =
      elim (is_so (test y)) [
        | inl k ↦
            let d : Contains (y ∷ filter test ys) x = rw k at c in
            elim (in_cons_cases y (filter test ys) x d) [
              | inl e ↦ subst (λ (p : Reverse QueueRank). Contains (y ∷ ys) p) e (in_head y ys)
              | inr f ↦ in_tail y ys x (from_kept ys x f)
            ]
        | inr k ↦ let d : Contains (filter test ys) x = rw k at c in in_tail y ys x (from_kept ys x d)
      ]

pub thinned : (xs : List Order) (queue : ℕ) (old kept new : List (Reverse QueueRank)) → Ascends xs
    → kept ≡ filter (λ r. is_ranked xs queue r.0) old → IsPermutation kept new
    → HasThinned xs queue (ranks old) (ranks new)
thinned xs queue old kept new up e moved =
    let test : Reverse QueueRank → Bool = λ r. is_ranked xs queue r.0 in
    record {
      kept = λ o stands own c.
          let m = from_map (λ (x : Reverse QueueRank). x.0) old (rank_of o) c in
          let t : is_ranked xs queue m.0.0 ≡ true = subst (λ (r : QueueRank). is_ranked xs queue r ≡ true) (sym m.2)
          (ranked_itself xs queue o up stands own) in
          let stays : Contains kept m.0 = subst (λ (ys : List (Reverse QueueRank)). Contains ys m.0) (sym e)
          (in_kept test old m.0 m.1 t) in
          subst (λ (r : QueueRank). Contains (ranks new) r) m.2
          (in_map (λ (x : Reverse QueueRank). x.0) new m.0 (Contains-permutation kept new m.0 moved stays));
      only = λ r c.
          let m = from_map (λ (x : Reverse QueueRank). x.0) new r c in
          let was : Contains (filter test old) m.0 = subst (λ (ys : List (Reverse QueueRank)). Contains ys m.0) e
          (Contains-permutation new kept m.0 (IsPermutation-sym kept new moved) m.1) in
          subst (λ (q : QueueRank). Contains (ranks old) q) m.2
          (in_map (λ (x : Reverse QueueRank). x.0) old m.0 (from_kept test old m.0 was));
    }
