-- the fills of a turn, put together one by one
use Rattle.std.proofs.Common.{◌≡◌, ℕ, ℤ, List, [], ◌∷◌, ◌++◌, map, sym, ap, ◌∙◌}
use Rattle.spread_rules.specs.declared.order.Order.{Order}
use Rattle.spread_rules.specs.declared.fill.Fill.{Fill}
use Rattle.spread_rules.specs.declared.candidate.Candidate.{Candidate}
use Rattle.spread_rules.specs.Candidates.{least_left, members}
use Rattle.spread_rules.specs.Clearing.{fill_of, fills_of, leg_prices}

-- the new order's fill, then one for each member
abbrev fills_with : Order → ℤ → ℕ → ℤ × ℤ → List Order → List Fill
fills_with n price q legs ms = fill_of n.place q legs n price ∷ map (λ m. fill_of n.place q legs m m.price) ms

pub fills_made : (references : List ℤ) (n : Order) (o : Candidate) (q : ℕ) (legs : ℤ × ℤ) (ms : List Order)
    → members o.counterparty ≡ ms → q ≡ least_left n o.counterparty
    → legs ≡ leg_prices references n.instrument o.price o.counterparty
    → fills_with n o.price q legs ms ≡ fills_of references n o
fills_made references n o q legs ms m e l =
    ap (λ (ks : List Order). fills_with n o.price q legs ks) (sym m)
    ∙ ap (λ (k : ℕ). fills_with n o.price k legs (members o.counterparty)) e
    ∙ ap (λ (x : ℤ × ℤ). fills_with n o.price (least_left n o.counterparty) x (members o.counterparty)) l

module _ {X : Type 0} (a b c : List X) (x y u v : X) (none : a ≡ []) (first : b ≡ a ++ x ∷ [])
    (second : c ≡ b ++ y ∷ []) (x_is : x ≡ u) (y_is : y ≡ v) where
  pub two_put : c ≡ u ∷ v ∷ []
  two_put = rw (second, first, none, x_is, y_is)

  pub three_put : (d : List X) (z w : X) → d ≡ c ++ z ∷ [] → z ≡ w → d ≡ u ∷ v ∷ w ∷ []
  three_put d z w third z_is = rw (third, two_put, z_is)
