-- orders in order of place, and one more or none behind them
use Rattle.std.proofs.Common.{◌≡◌, ℕ, ◌<◌, ◌==◌, Bool, true, false, not, cond, List, [], ◌∷◌, ◌++◌, Option, Some, None, Contains, All, refl, sym, ap, ◌∙◌, subst, arith, inl, inr}
use Rattle.std.specs.List.{find}
use Rattle.std.specs.Option.{IfSome, option_to_list, option_or}
use Rattle.std.proofs.lemmas.Bool.Decides.{nat_tests}
use Rattle.std.proofs.lemmas.List.{map-append}
use Rattle.std.proofs.lemmas.List.Elements.{All-contains, All-head, All-tail, Contains-append_cases, Contains-append_left, Contains-push, Contains-push_cases, filter-append}
use Rattle.std.proofs.lemmas.List.Folds.{find-append}
use Rattle.spread_rules.specs.declared.order.Order.{Order}
use Rattle.spread_rules.specs.Clearing.{removed}
use Rattle.spread_rules.specs.Meaning.{is_own}
use Rattle.spread_rules.specs.Amended.{done}
use Rattle.spread_books_plain.specs.Queues.{CanAmend}
use Rattle.spread_rules_rulebook.proofs.lists.Membership.{not_in_nil, in_cons_cases}
use Rattle.spread_books_rows.specs.Places.{HasMore, HasPlace, Ascends}
use Rattle.spread_books_rows.proofs.places.ChangedAt.{changed_at, changed, changed_nobody}
use Rattle.spread_books_rows.proofs.places.Ascending.{all_of, ascends_cons, behind_first, others_ascend, find_none, unfound, removed_nobody, is_so, from_removed}

-- ---- places that rise

pub ascends_added : (xs : List Order) (o : Order) → Ascends xs → All (λ p. p.place < o.place) xs
    → Ascends (xs ++ o ∷ [])
ascends_added [] o s h = ascends_cons o [] (λ p c. absurd (not_in_nil p c)) s
ascends_added (x ∷ xs) o s h =
    ascends_cons x (xs ++ o ∷ []) (λ p c.
    elim (Contains-push_cases xs o p c) [
      | inl d ↦ behind_first x xs p s d
      | inr e ↦ subst (λ (q : Order). x.place < q.place) e (All-head (λ (q : Order). q.place < o.place) x xs h)
    ])
    (ascends_added xs o (others_ascend x xs s) (All-tail (λ (q : Order). q.place < o.place) x xs h))

pub ascends_removed : (place : ℕ) (xs : List Order) → Ascends xs → Ascends (removed place xs)
ascends_removed place [] s = s
ascends_removed place (x ∷ xs) s =
    let rest = ascends_removed place xs (others_ascend x xs s) in
    let at = λ (b : Bool). Ascends (cond (not b) (x ∷ removed place xs) (removed place xs)) in
    elim (is_so (x.place == place)) [
      | inl k ↦ subst at (sym k) rest
      | inr k ↦ subst at (sym k) (ascends_cons x (removed place xs)
          (λ o c. behind_first x xs o s (from_removed place xs o c).0) rest)
    ]

below_last : (xs : List Order) (n : Order) → Ascends (xs ++ n ∷ []) → (o : Order) → Contains xs o → o.place < n.place
below_last [] n s o c = absurd (not_in_nil o c)
below_last (x ∷ xs) n s o c =
    elim (in_cons_cases x xs o c) [
      | inl e ↦ subst (λ (p : Order). p.place < n.place) e (behind_first x (xs ++ n ∷ []) n s (Contains-push xs n))
      | inr d ↦ below_last xs n (others_ascend x (xs ++ n ∷ []) s) o d
    ]

pub all_below : (xs : List Order) (n : Order) → Ascends (xs ++ n ∷ []) → All (λ o. o.place < n.place) xs
all_below xs n s = all_of (λ (o : Order). o.place < n.place) xs (below_last xs n s)

pub newest_above : (xs : List Order) (newest : Option Order) → Ascends (xs ++ option_to_list newest)
    → IfSome newest (λ n. All (λ o. o.place < n.place) xs)
newest_above xs None s = tt
newest_above xs (Some n) s = all_below xs n s

-- ---- a place that no order of the list has

or_none : (r : Option Order) → option_or r None ≡ r
or_none None = refl
or_none (Some o) = refl

-- ---- the first that passes a test

pub found_behind : (test : Order → Bool) (xs ys : List Order) → find test xs ≡ None
    → find test (xs ++ ys) ≡ find test ys
found_behind test xs ys none = find-append test xs ys ∙ ap (λ (r : Option Order). option_or r (find test ys)) none

pub found_ahead : (test : Order → Bool) (xs ys : List Order) (o : Order) → find test xs ≡ Some o
    → find test (xs ++ ys) ≡ Some o
found_ahead test xs ys o some = find-append test xs ys ∙ ap (λ (r : Option Order). option_or r (find test ys)) some

first_none : (a b : Option Order) → option_or a b ≡ None → a ≡ None
first_none None b h = refl
first_none (Some o) b h = cc

none_ahead : (test : Order → Bool) (xs ys : List Order) → find test (xs ++ ys) ≡ None → find test xs ≡ None
none_ahead test xs ys h = first_none (find test xs) (find test ys) (sym (find-append test xs ys) ∙ h)

-- ---- whose place is not among those behind

module _ (xs ys : List Order) (place : ℕ) (none : find (λ o. o.place == place) ys ≡ None) where
  pub changed_before : (f : Order → Order) → changed f place (xs ++ ys) ≡ changed f place xs ++ ys
  changed_before f = map-append (changed_at f place) xs ys
      ∙ ap (λ (zs : List Order). changed f place xs ++ zs) (changed_nobody f ys place (unfound ys place none))

  pub removed_before : removed place (xs ++ ys) ≡ removed place xs ++ ys
  removed_before = filter-append (λ (o : Order). not (o.place == place)) xs ys
      ∙ ap (λ (zs : List Order). removed place xs ++ zs) (removed_nobody ys place (unfound ys place none))

  pub found_before : find (λ o. o.place == place) (xs ++ ys) ≡ find (λ o. o.place == place) xs
  found_before =
      find-append (λ (o : Order). o.place == place) xs ys
      ∙ ap (λ (r : Option Order). option_or (find (λ (o : Order). o.place == place) xs) r) none
      ∙ or_none (find (λ (o : Order). o.place == place) xs)

  stands_before : (o : Order) → Contains (xs ++ ys) o → o.place ≡ place → Contains xs o
  stands_before o c e =
      elim (Contains-append_cases xs ys o c) [
        | inl d ↦ d
        | inr d ↦ let k = unfound ys place none o d in absurd (grind (arith, nat_tests))
      ]

  pub place_before : HasPlace (xs ++ ys) place → HasPlace xs place
  place_before h = record { order = h.order; stands = stands_before h.order h.stands h.at; at = h.at }

  pub more_before : (by : ℕ) → HasMore (xs ++ ys) place by → HasMore xs place by
  more_before by h = record {
    order = h.order;
    stands = stands_before h.order h.stands h.at;
    at = h.at;
    each = all_of (λ (o : Order). o.place ≡ place → by < o.leaves) xs
        (λ o c. All-contains (λ (p : Order). p.place ≡ place → by < p.leaves) (xs ++ ys) o h.each
        (Contains-append_left xs ys o c));
  }

  pub amend_before : (id : List ℕ) (quantity : ℕ) → CanAmend (xs ++ ys) place id quantity
      → CanAmend xs place id quantity
  amend_before id quantity h = record {
    order = h.order;
    stands = stands_before h.order h.stands h.at;
    at = h.at;
    each = all_of (λ (o : Order). o.place ≡ place → done o < quantity) xs
        (λ o c. All-contains (λ (p : Order). p.place ≡ place → done p < quantity) (xs ++ ys) o h.each
        (Contains-append_left xs ys o c));
    most = h.most;
    free = none_ahead (is_own h.order.session id) xs ys h.free;
  }

-- ---- whose place is that of the one behind

-- the newest is the one that is found among none or one
pub newest_is : (newest : Option Order) (place : ℕ) (o : Order)
    → find (λ o. o.place == place) (option_to_list newest) ≡ Some o → (newest ≡ Some o) × (o.place ≡ place)
newest_is None place o h = cc
newest_is (Some n) place o h =
    elim (is_so (n.place == place)) [
      | inl k ↦ let e : n ≡ o = let g = rw k at h in cc in let l : n.place ≡ place = grind (arith, nat_tests) in
          (ap (λ (p : Order). Some p) e, ap (λ (p : Order). p.place) (sym e) ∙ l)
      | inr k ↦ let g = rw k at h in cc
    ]

module _ (xs : List Order) (o : Order) (up : Ascends (xs ++ o ∷ [])) where
  others : (p : Order) → Contains xs p → (p.place == o.place) ≡ false
  others p c = let l = below_last xs o up p c in grind (arith, nat_tests)

  own : (o.place == o.place) ≡ true
  own = grind (arith, nat_tests)

  pub changed_last : (f : Order → Order) → changed f o.place (xs ++ o ∷ []) ≡ xs ++ f o ∷ []
  changed_last f =
      let left : changed_at f o.place o ≡ f o = rw own in
      map-append (changed_at f o.place) xs (o ∷ [])
      ∙ ap (λ (zs : List Order). zs ++ changed_at f o.place o ∷ []) (changed_nobody f xs o.place others)
      ∙ ap (λ (p : Order). xs ++ p ∷ []) left

  pub removed_last : removed o.place (xs ++ o ∷ []) ≡ xs ++ []
  removed_last =
      let gone : removed o.place (o ∷ []) ≡ [] = rw own in
      filter-append (λ (p : Order). not (p.place == o.place)) xs (o ∷ [])
      ∙ ap (λ (zs : List Order). removed o.place xs ++ zs) gone
      ∙ ap (λ (zs : List Order). zs ++ []) (removed_nobody xs o.place others)

  pub found_last : find (λ p. p.place == o.place) (xs ++ o ∷ []) ≡ Some o
  found_last =
      let here : find (λ (p : Order). p.place == o.place) (o ∷ []) ≡ Some o = rw own in
      found_behind (λ (p : Order). p.place == o.place) xs (o ∷ [])
      (find_none (λ (p : Order). p.place == o.place) xs others) ∙ here

module _ (xs : List Order) (newest : Option Order) (place : ℕ) (o : Order)
    (here : find (λ p. p.place == place) (option_to_list newest) ≡ Some o) (up : Ascends (xs ++ option_to_list newest))
  where
    whole : xs ++ option_to_list newest ≡ xs ++ o ∷ []
    whole = ap (λ (r : Option Order). xs ++ option_to_list r) (newest_is newest place o here).0

    rises : Ascends (xs ++ o ∷ [])
    rises = subst (λ (zs : List Order). Ascends zs) whole up

    at : o.place ≡ place
    at = (newest_is newest place o here).1

    pub changed_newest : (f : Order → Order) → changed f place (xs ++ option_to_list newest) ≡ xs ++ f o ∷ []
    changed_newest f = ap (λ (zs : List Order). changed f place zs) whole
        ∙ ap (λ (n : ℕ). changed f n (xs ++ o ∷ [])) (sym at) ∙ changed_last xs o rises f

    pub removed_newest : removed place (xs ++ option_to_list newest) ≡ xs ++ []
    removed_newest = ap (λ (zs : List Order). removed place zs) whole
        ∙ ap (λ (n : ℕ). removed n (xs ++ o ∷ [])) (sym at)
        ∙ removed_last xs o rises

    pub found_newest : find (λ p. p.place == place) (xs ++ option_to_list newest) ≡ Some o
    found_newest = ap (λ (zs : List Order). find (λ (p : Order). p.place == place) zs) whole
        ∙ ap (λ (n : ℕ). find (λ (p : Order). p.place == n) (xs ++ o ∷ [])) (sym at) ∙ found_last xs o rises
