-- the lots and the money of a side and month, summed leg by leg
use Rattle.std.proofs.Common.{◌≡◌, ℕ, ◌+◌, ◌==◌, ℤ, pos, ◌+ℤ◌, ◌*ℤ◌, Bool, true, false, ◌&&◌, List, [], ◌∷◌, ◌++◌, cond, filter, map, refl, ap, ◌∙◌, arith}
use Rattle.std.specs.Prelude.{fold, if◌then◌else◌}
use Rattle.std.specs.List.{flat_map, sum_by}
use Rattle.std.proofs.lemmas.Int.{ints}
use Rattle.std.proofs.lemmas.List.{map-append}
use Rattle.std.proofs.lemmas.List.Sums.{sum_by-cons}
use Rattle.spread_rules.specs.declared.order.Side.{Side}
use Rattle.spread_rules.specs.declared.order.Side.TheVariants.{Buy, Sell}
use Rattle.spread_rules_rulebook.specs.declared.instrument.Instrument.{Instrument}
use Rattle.spread_rules_rulebook.specs.declared.instrument.Instrument.TheVariants.{Outright, Spread}
use Rattle.spread_rules_rulebook.specs.Instruments.{month_of}
use Rattle.spread_rules.specs.declared.fill.Fill.{Fill}
use Rattle.spread_rules.specs.Legs.{is_side, legs_of}
use Rattle.spread_rules.specs.code.Legs.{Leg, bought, sold, paid, received, legs_by, legs_in, legs, quantities, money_of_legs}

-- ---- the legs

abbrev to_leg : Fill → Leg
to_leg l = record { month = month_of l.instrument; side = l.side; quantity = l.quantity; price = l.price }

one_fill : (i : Instrument) (f : Fill) → f.instrument ≡ i
    → map to_leg (legs_of i f) ≡ legs_by i f.side f.quantity f.price f.near f.far
one_fill (Outright m) f e = ap (λ (i : Instrument). legs_by (Outright (month_of i)) f.side f.quantity f.price f.near
    f.far) e
one_fill (Spread i j) f e = refl

all_fills : (fills : List Fill) → map to_leg (flat_map (λ f. legs_of f.instrument f) fills) ≡ legs fills
all_fills [] = refl
all_fills (f ∷ fs) =
    map-append to_leg (legs_of f.instrument f) (flat_map (λ g. legs_of g.instrument g) fs)
    ∙ (ap (λ (ls : List Leg). ls ++ map to_leg (flat_map (λ g. legs_of g.instrument g) fs))
    (one_fill f.instrument f refl)
    ∙ ap (λ (ls : List Leg). legs_in f ++ ls) (all_fills fs))

abbrev is_on : Side → ℕ → Fill → Bool
is_on side month l = is_side side l.side && month_of l.instrument == month

-- ---- lots

lots_by : (side : Side) (month : ℕ) (ls : List Fill)
    → sum_by (λ l. l.quantity) (filter (is_on side month) ls) ≡ quantities side month (map to_leg ls)
lots_by side month [] = refl
lots_by side month (l ∷ ls) = by (is_on side month l) (lots_by side month ls)
  where
    by : (b : Bool) → sum_by (λ l. l.quantity) (filter (is_on side month) ls) ≡ quantities side month (map to_leg ls)
        → sum_by (λ l. l.quantity) (cond b (l ∷ filter (is_on side month) ls) (filter (is_on side month) ls)) ≡
        (if b then l.quantity else 0) + quantities side month (map to_leg ls)
    by true rest = sum_by-cons (λ (l : Fill). l.quantity) l (filter (is_on side month) ls)
        ∙ ap (λ (n : ℕ). l.quantity + n) rest
    by false rest = omega (arith, rest)

-- ---- money

abbrev money_of : List Fill → ℤ
money_of ls = fold (λ sum l. sum +ℤ (pos l.quantity *ℤ l.price)) (pos 0) ls

from_any : (ls : List Fill) (z : ℤ) → fold (λ sum l. sum +ℤ (pos l.quantity *ℤ l.price)) z ls ≡ z +ℤ money_of ls
from_any [] z = omega (arith, ints)
from_any (l ∷ ls) z =
    let here = from_any ls (z +ℤ (pos l.quantity *ℤ l.price)) in
    let there = from_any ls (pos 0 +ℤ (pos l.quantity *ℤ l.price)) in
    omega (arith, ints, here, there)

money_by : (side : Side) (month : ℕ) (ls : List Fill)
    → money_of (filter (is_on side month) ls) ≡ money_of_legs side month (map to_leg ls)
money_by side month [] = refl
money_by side month (l ∷ ls) = by (is_on side month l) (money_by side month ls)
  where
    by : (b : Bool) → money_of (filter (is_on side month) ls) ≡ money_of_legs side month (map to_leg ls)
        → money_of (cond b (l ∷ filter (is_on side month) ls) (filter (is_on side month) ls)) ≡
        (if b then pos l.quantity *ℤ l.price else pos 0) +ℤ money_of_legs side month (map to_leg ls)
    by true rest =
        let first = from_any (filter (is_on side month) ls) (pos 0 +ℤ (pos l.quantity *ℤ l.price)) in
        omega (arith, ints, first, rest)
    by false rest = omega (arith, ints, rest)

-- ---- of all fills

abbrev all_legs : List Fill → List Fill
all_legs fills = flat_map (λ f. legs_of f.instrument f) fills

pub bought_is : (month : ℕ) (fills : List Fill) → bought month fills ≡ quantities Buy month (legs fills)
bought_is month fills = lots_by Buy month (all_legs fills) ∙ ap (quantities Buy month) (all_fills fills)

pub sold_is : (month : ℕ) (fills : List Fill) → sold month fills ≡ quantities Sell month (legs fills)
sold_is month fills = lots_by Sell month (all_legs fills) ∙ ap (quantities Sell month) (all_fills fills)

pub paid_is : (month : ℕ) (fills : List Fill) → paid month fills ≡ money_of_legs Buy month (legs fills)
paid_is month fills = money_by Buy month (all_legs fills) ∙ ap (money_of_legs Buy month) (all_fills fills)

pub received_is : (month : ℕ) (fills : List Fill) → received month fills ≡ money_of_legs Sell month (legs fills)
received_is month fills = money_by Sell month (all_legs fills) ∙ ap (money_of_legs Sell month) (all_fills fills)
