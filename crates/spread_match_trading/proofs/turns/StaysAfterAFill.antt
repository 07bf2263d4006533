-- what stays after a fill
use Rattle.std.proofs.Common.{◌≡◌, ◌≢◌, ℕ, ◌==◌, ◌-◌, Bool, true, false, not, cond, List, [], ◌∷◌, filter, Contains, ◌⊎◌, inl, inr, subst, sym, ap, ◌∙◌, arith}
use Rattle.std.proofs.lemmas.Bool.Decides.{nat_tests}
use Rattle.spread_rules.specs.declared.order.Order.{Order}
use Rattle.spread_rules.specs.code.Cases.{with_less_left}
use Rattle.spread_rules.specs.Clearing.{removed, reduced}
use Rattle.spread_rules_rulebook.proofs.lists.Membership.{not_in_nil, in_head, in_tail, in_cons_cases, in_map, from_map}
use Rattle.spread_rules.specs.Candidates.{PlacesDiffer}
use Rattle.spread_rules.proofs.clearings.TurnsEnd.{from_filter, less_place}

pub other_place : (a b : ℕ) → b ≢ a → (b == a) ≡ false
other_place a b h = grind (arith, nat_tests)

stays_at : (x : Order) (ys : List Order) (b : Order) (t : Bool) → Contains (x ∷ []) b ⊎ Contains ys b
    → (Contains (x ∷ []) b → t ≡ true) → Contains (cond t (x ∷ ys) ys) b
stays_at x ys b true (inl c) h = elim (in_cons_cases x [] b c)
    [ inl e ↦ subst (Contains (x ∷ ys)) e (in_head x ys) | inr d ↦ absurd (not_in_nil b d) ]
stays_at x ys b true (inr c) h = in_tail x ys b c
stays_at x ys b false (inl c) h = let no : false ≡ true = h c in cc
stays_at x ys b false (inr c) h = c

pub in_filtered : (p : Order → Bool) (xs : List Order) (b : Order) → p b ≡ true → Contains xs b
    → Contains (filter p xs) b
in_filtered p [] b h c = c
in_filtered p (x ∷ xs) b h c =
    stays_at x (filter p xs) b (p x)
    (elim (in_cons_cases x xs b c) [
      | inl e ↦ inl (subst (Contains (x ∷ [])) e (in_head x []))
      | inr d ↦
          inr (in_filtered p xs b h d)
    ])
    (λ d. elim (in_cons_cases x [] b d) [ inl e ↦ ap p e ∙ h | inr z ↦ absurd (not_in_nil b z) ])

-- another order stays as it is
pub still_there : (q : ℕ) (xs : List Order) (a b : Order) (t : Bool) → a.place ≢ b.place → Contains xs b
    → Contains (cond t (removed a.place xs) (reduced a.place q xs)) b
still_there q xs a b true h c =
    let e : (b.place == a.place) ≡ false = other_place a.place b.place (λ f. h (sym f)) in
    in_filtered (λ (o : Order). not (o.place == a.place)) xs b (ap not e) c
still_there q xs a b false h c =
    let e : (b.place == a.place) ≡ false = other_place a.place b.place (λ f. h (sym f)) in
    subst (Contains (reduced a.place q xs)) (ap (λ (t : Bool). cond t (record b { leaves = b.leaves - q }) b) e)
    (in_map (with_less_left a.place q) xs b c)

-- places still differ
pub still_differ : (q : ℕ) (xs : List Order) (a : Order) (t : Bool) → PlacesDiffer xs
    → PlacesDiffer (cond t (removed a.place xs) (reduced a.place q xs))
still_differ q xs a true d = λ x y cx cy e. d x y (from_filter (λ (o : Order). not (o.place == a.place)) xs x cx)
    (from_filter (λ (o : Order). not (o.place == a.place)) xs y cy) e
still_differ q xs a false d = λ x y cx cy e.
    let mx = from_map (with_less_left a.place q) xs x cx in
    let my = from_map (with_less_left a.place q) xs y cy in
    let px : mx.0.place ≡ x.place = sym (less_place a.place q mx.0 (mx.0.place == a.place))
    ∙ ap (λ (o : Order). o.place) mx.2 in
    let py : my.0.place ≡ y.place = sym (less_place a.place q my.0 (my.0.place == a.place))
    ∙ ap (λ (o : Order). o.place) my.2 in
    sym mx.2 ∙ (ap (with_less_left a.place q) (d mx.0 my.0 mx.1 my.1 (px ∙ (e ∙ sym py))) ∙ my.2)
