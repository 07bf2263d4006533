-- prices within the limits of orders: those of a rulebook are, and each fits its word
use Rattle.std.proofs.Common.{◌≡◌, ℕ, zero, suc, ℤ, pos, w64, of_z, to_z, FitsSigned, List, [], ◌∷◌, get_or, All, arith}
use Rattle.std.proofs.lemmas.Int.{ints, to_z-of_z}
use Rattle.std.proofs.lemmas.List.Elements.{All-map, All-weaker, All-tail}
use Rattle.spread_rules_rulebook.specs.declared.rulebook.Month.{Month}
use Rattle.spread_rules_rulebook.specs.Prices.{IsOrderPrice}
use Rattle.spread_rules_rulebook.specs.Rulebook.{Rules, references_of, IsRules, IsMonth}

pub small_references : (rules : Rules) → IsRules rules → All IsOrderPrice (references_of rules)
small_references rules r = All-map IsOrderPrice (λ (m : Month). m.reference) rules.months
    (All-weaker (IsMonth rules.tick) (λ (m : Month). IsOrderPrice m.reference) (λ m k. k.reference.price) rules.months
    r.months)

pub small_at : (references : List ℤ) (i : ℕ) → All IsOrderPrice references → IsOrderPrice (get_or references i (pos 0))
small_at [] i h = record { low = omega (arith, ints); high = omega (arith, ints) }
small_at (x ∷ xs) zero h = h 0 x (omega arith)
small_at (x ∷ xs) (suc i) h = small_at xs i (All-tail IsOrderPrice x xs h)

pub small_reference : (rules : Rules) (month : ℕ) → IsRules rules
    → IsOrderPrice (get_or (references_of rules) month (pos 0))
small_reference rules month r = small_at (references_of rules) month (small_references rules r)

pub order_is : (z : ℤ) → IsOrderPrice z → to_z w64 (of_z w64 z) ≡ z
order_is z h =
    let low = h.low in
    let high = h.high in
    let fits : FitsSigned w64 z = omega (arith, ints) in
    to_z-of_z w64 z fits
