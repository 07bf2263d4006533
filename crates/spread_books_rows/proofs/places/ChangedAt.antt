-- a list of orders of which the one of a place is changed
use Rattle.std.proofs.Common.{◌≡◌, ℕ, ◌-◌, ◌==◌, Bool, true, false, cond, List, [], ◌∷◌, map, Contains, refl, ap}
use Rattle.spread_rules.specs.declared.order.Order.{Order}
use Rattle.spread_rules_rulebook.proofs.lists.Membership.{in_head, in_tail}

abbrev pub changed_at : (Order → Order) → ℕ → Order → Order
changed_at f place o = cond (o.place == place) (f o) o

abbrev pub changed : (Order → Order) → ℕ → List Order → List Order
changed f place xs = map (changed_at f place) xs

-- so many lots fewer are left
abbrev pub less : ℕ → Order → Order
less by o = record o { leaves = o.leaves - by }

pub changed_nobody : (f : Order → Order) (xs : List Order) (place : ℕ)
    → ((o : Order) → Contains xs o → (o.place == place) ≡ false) → changed f place xs ≡ xs
changed_nobody f [] place h = refl
changed_nobody f (x ∷ xs) place h = rw (h x (in_head x xs))
    (ap (λ (ys : List Order). x ∷ ys) (changed_nobody f xs place (λ o c. h o (in_tail x xs o c))))

-- what the change keeps of an order it keeps of all
module _ {K : Type 0} (key : Order → K) (f : Order → Order) (keeps : (o : Order) → key (f o) ≡ key o) where
  kept_where : (o : Order) (b : Bool) → key (cond b (f o) o) ≡ key o
  kept_where o true = keeps o
  kept_where o false = refl

  pub key_kept : (place : ℕ) (o : Order) → key (changed_at f place o) ≡ key o
  key_kept place o = kept_where o (o.place == place)

  pub keys_kept : (place : ℕ) (xs : List Order) → map key (changed f place xs) ≡ map key xs
  keys_kept place [] = refl
  keys_kept place (x ∷ xs) = let a = key_kept place x in let b = keys_kept place xs in cc
