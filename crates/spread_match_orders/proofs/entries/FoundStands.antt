-- who is found stands in the list and passes the test, and none is found where none passes it
use Rattle.std.proofs.Common.{◌≡◌, Bool, true, false, cond, List, [], ◌∷◌, Contains, Option, Some, None, refl, subst, sym, ap, ◌∙◌}
use Rattle.std.specs.List.{find}
use Rattle.spread_rules_rulebook.proofs.lists.Membership.{in_head, in_tail}

found_at : {X : Type 0} (x : X) (xs : List X) (o : X) (b : Bool) (r : Option X) → (r ≡ Some o → Contains xs o)
    → cond b (Some x) r ≡ Some o → Contains (x ∷ xs) o
found_at {X} x xs o true r on e = let same : x ≡ o = cc in subst (λ (y : X). Contains (x ∷ xs) y) same (in_head x xs)
found_at x xs o false r on e = in_tail x xs o (on e)

pub find_stands : {X : Type 0} (p : X → Bool) (xs : List X) (o : X) → find p xs ≡ Some o → Contains xs o
find_stands p [] o e = cc
find_stands p (x ∷ xs) o e = found_at x xs o (p x) (find p xs) (find_stands p xs o) e

pub find_holds : {X : Type 0} (p : X → Bool) (xs : List X) (x : X) → find p xs ≡ Some x → p x ≡ true
find_holds p [] x e = cc
find_holds {X} p (y ∷ xs) x e = by_test (p y) refl (find_holds p xs x)
  where
    by_test : (b : Bool) → p y ≡ b → (find p xs ≡ Some x → p x ≡ true) → p x ≡ true
    by_test true f on = let same : y ≡ x = (let k : ◌≡◌ {A = Option X} (Some y) (Some x) =
        sym (ap (λ (b : Bool). cond b (Some y) (find p xs)) f) ∙ e in cc) in ap p (sym same) ∙ f
    by_test false f on = on (sym (ap (λ (b : Bool). cond b (Some y) (find p xs)) f) ∙ e)

pub find_none : {X : Type 0} (p : X → Bool) (xs : List X) → ((x : X) → Contains xs x → p x ≡ true → ⊥)
    → find p xs ≡ None
find_none p [] h = refl
find_none p (x ∷ xs) h = by_test (p x) refl (find_none p xs (λ y c. h y (in_tail x xs y c)))
  where
    by_test : (b : Bool) → p x ≡ b → find p xs ≡ None → cond (p x) (Some x) (find p xs) ≡ None
    by_test true e n = absurd (h x (in_head x xs) e)
    by_test false e n = ap (λ (b : Bool). cond b (Some x) (find p xs)) e ∙ n
