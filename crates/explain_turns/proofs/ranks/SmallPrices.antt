-- prices fit a signed word
use Rattle.std.proofs.Common.{◌≡◌, ℤ, pos, neg_ℤ, ◌-ℤ◌, ◌≤ℤ◌, ap, ◌∙◌, arith, FitsSigned, to_z, of_z, w64, unsigned_abs}
use Rattle.std.proofs.lemmas.Int.{ints, to_z-of_z}
use Rattle.spread_rules_rulebook.specs.Prices.{IsLegPrice, IsOrderPrice}

small_64 : (z : ℤ) → neg_ℤ (pos 4000000000) ≤ℤ z → z ≤ℤ pos 4000000000 → to_z w64 (of_z w64 z) ≡ z
small_64 z low high = let f : FitsSigned w64 z = omega (arith, ints) in to_z-of_z w64 z f

pub leg_price : (p : ℤ) → IsLegPrice p → to_z w64 (of_z w64 p) ≡ p
leg_price p h = let l = h.low in let u = h.high in small_64 p (omega (arith, ints)) (omega (arith, ints))

pub order_price : (p : ℤ) → IsOrderPrice p → to_z w64 (of_z w64 p) ≡ p
order_price p h = let l = h.low in let u = h.high in small_64 p (omega (arith, ints)) (omega (arith, ints))

difference : (p l : ℤ) → IsLegPrice p → IsOrderPrice l → to_z w64 (of_z w64 (p -ℤ l)) ≡ p -ℤ l
difference p l h k = let a = h.low in let b = h.high in let c = k.low in let d = k.high in
    small_64 (p -ℤ l) (omega (arith, ints)) (omega (arith, ints))

pub distance : (p l : ℤ) → IsLegPrice p → IsOrderPrice l
    → unsigned_abs (to_z w64 (of_z w64 (to_z w64 (of_z w64 p) -ℤ to_z w64 (of_z w64 l)))) ≡ unsigned_abs (p -ℤ l)
distance p l h k =
    ap (λ (x : ℤ). unsigned_abs (to_z w64 (of_z w64 (x -ℤ to_z w64 (of_z w64 l))))) (leg_price p h)
    ∙ ap (λ (y : ℤ). unsigned_abs (to_z w64 (of_z w64 (p -ℤ y)))) (order_price l k)
    ∙ ap (λ (z : ℤ). unsigned_abs z) (difference p l h k)

pub tick_fits : (t u : ℤ) → t ≡ u → pos 1 ≤ℤ t → t ≤ℤ pos 4000000000
    → unsigned_abs (to_z w64 (of_z w64 t)) ≡ unsigned_abs u
tick_fits t u e l h = ap (λ (z : ℤ). unsigned_abs z) (small_64 t (omega (arith, ints)) h ∙ e)
