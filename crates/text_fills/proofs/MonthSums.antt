-- Sums of a month leg by leg.
use Rattle.std.proofs.Common.{◌≡◌, ℕ, zero, suc, ◌+◌, ◌*◌, ◌^◌, ◌<◌, ◌≤◌, ◌==◌, Bool, true, false, ◌&&◌, cond, ℤ, pos, neg_ℤ, ◌+ℤ◌, ◌*ℤ◌, ◌≤ℤ◌, List, [], ◌∷◌, length, get_or, set, take, All, refl, sym, ap, ◌∙◌, subst, arith, FitsSigned, to_z, of_z, mul_comm}
use Rattle.std.specs.Prelude.{fold, unsigned_abs}
use Rattle.std.specs.Int.{w64, w128}
use Rattle.std.proofs.lemmas.Bool.Decides.{nat_tests}
use Rattle.std.proofs.lemmas.Int.{ints, to_z-of_z, unsigned_abs-mul}
use Rattle.std.proofs.lemmas.List.Elements.{All-set, All-replicate, All-take}
use Rattle.std.proofs.lemmas.List.Sums.{fold-append}
use Rattle.std.proofs.lemmas.List.{take_all, length-take, length-replicate}
use Rattle.std.proofs.Math.ListN.{length-set}
use Rattle.std.proofs.Math.Nat.{mul-le-mul_left}
use Rattle.spread_rules.specs.declared.order.Side.{Side}
use Rattle.spread_rules.specs.declared.order.Side.TheVariants.{Buy, Sell}
use Rattle.spread_rules_rulebook.specs.declared.instrument.Instrument.{Instrument}
use Rattle.spread_rules_rulebook.specs.declared.instrument.Instrument.TheVariants.{Outright, Spread}
use Rattle.spread_rules.specs.declared.fill.Fill.{Fill}
use Rattle.spread_rules.specs.code.Cases.{quantity_in, money_in}
use Rattle.spread_rules.specs.Legs.{is_side, other_side}
use Rattle.spread_rules.specs.code.Legs.{Leg, legs_by, legs_in, legs, quantities, money_of_legs}
use Rattle.spread_rules.proofs.clearings.SumsOverLegs.{bought_is, sold_is, paid_is, received_is}
use Rattle.text_fills.specs.declared.totals.MonthTotals.{MonthTotals}
use Rattle.text_fills.specs.Totals.{AreTotals, IsSummable}
use Rattle.text_fills.specs.code.Sums.{plus_leg, empty_month, with_leg, with_fill, empty_months, IsLegInRange, HasRoom}

-- ---- the money of one leg

bound_mul : (a b m n : ℕ) → a ≤ m → b ≤ n → a * b ≤ m * n
bound_mul a b m n p q =
    let left : a * b ≤ a * n = mul-le-mul_left a q in
    let right : n * a ≤ n * m = mul-le-mul_left n p in
    omega (arith, left, right, mul_comm a n, mul_comm n m)

pub money_bound : (q : ℕ) (p : ℤ) → q ≤ 999999 → neg_ℤ (pos 2000000000) ≤ℤ p → p ≤ℤ pos 2000000000
    → unsigned_abs (pos q *ℤ p) ≤ 1999998000000000
money_bound q p few low high =
    let size : unsigned_abs p ≤ 2000000000 = omega (arith, ints) in
    let b : q * unsigned_abs p ≤ 999999 * 2000000000 = bound_mul q (unsigned_abs p) 999999 2000000000 few size in
    let e : unsigned_abs (pos q *ℤ p) ≡ q * unsigned_abs p = unsigned_abs-mul (pos q) p in
    omega (arith, b, e)

pub money_low : (q : ℕ) (p : ℤ) → q ≤ 999999 → neg_ℤ (pos 2000000000) ≤ℤ p → p ≤ℤ pos 2000000000
    → neg_ℤ (pos 1999998000000000) ≤ℤ (pos q *ℤ p)
money_low q p few low high = let b = money_bound q p few low high in omega (arith, ints, b)

pub money_high : (q : ℕ) (p : ℤ) → q ≤ 999999 → neg_ℤ (pos 2000000000) ≤ℤ p → p ≤ℤ pos 2000000000
    → (pos q *ℤ p) ≤ℤ pos 1999998000000000
money_high q p few low high = let b = money_bound q p few low high in omega (arith, ints, b)

-- sums within these bounds fit 128 bits
pub fits_128 : (z : ℤ) → neg_ℤ (pos 1000000000000000000000000000000000000) ≤ℤ z
    → z ≤ℤ pos 1000000000000000000000000000000000000 → to_z w128 (of_z w128 z) ≡ z
fits_128 z low high = let f : FitsSigned w128 z = omega (arith, ints) in to_z-of_z w128 z f

pub small_128 : (z : ℤ) → neg_ℤ (pos 2000000000) ≤ℤ z → z ≤ℤ pos 2000000000 → to_z w128 (of_z w128 z) ≡ z
small_128 z low high = fits_128 z (omega (arith, ints)) (omega (arith, ints))

-- ---- room

lots_more : (n m k : ℕ) → n ≤ m → k ≤ 999999 * n → k ≤ 999999 * m
lots_more n m k le most = omega arith

low_more : (n m : ℕ) (z : ℤ) → n ≤ m → neg_ℤ (pos (1999998000000000 * n)) ≤ℤ z → neg_ℤ (pos (1999998000000000 * m)) ≤ℤ z
low_more n m z le low = omega (arith, ints)

high_more : (n m : ℕ) (z : ℤ) → n ≤ m → z ≤ℤ pos (1999998000000000 * n) → z ≤ℤ pos (1999998000000000 * m)
high_more n m z le high = omega (arith, ints)

pub room_more : (n m : ℕ) (t : MonthTotals) → n ≤ m → HasRoom n t → HasRoom m t
room_more n m t le h = record {
  bought = lots_more n m t.bought le h.bought;
  sold = lots_more n m t.sold le h.sold;
  paid_low = low_more n m t.paid le h.paid_low;
  paid_high = high_more n m t.paid le h.paid_high;
  received_low = low_more n m t.received le h.received_low;
  received_high = high_more n m t.received le h.received_high;
}

zero_low : (n : ℕ) → neg_ℤ (pos (1999998000000000 * n)) ≤ℤ pos 0
zero_low n = omega (arith, ints)

zero_high : (n : ℕ) → pos 0 ≤ℤ pos (1999998000000000 * n)
zero_high n = omega (arith, ints)

zero_lots : (n : ℕ) → 0 ≤ 999999 * n
zero_lots n = omega arith

room_none : (n : ℕ) → HasRoom n empty_month
room_none n = record {
  bought = zero_lots n;
  sold = zero_lots n;
  paid_low = zero_low n;
  paid_high = zero_high n;
  received_low = zero_low n;
  received_high = zero_high n;
}

-- one leg more
one_more : (n : ℕ) → n ≤ n + 1
one_more n = omega arith

lots_added : (n k q : ℕ) → k ≤ 999999 * n → q ≤ 999999 → k + q ≤ 999999 * (n + 1)
lots_added n k q most few = omega arith

low_added : (n : ℕ) (z x : ℤ) → neg_ℤ (pos (1999998000000000 * n)) ≤ℤ z → neg_ℤ (pos 1999998000000000) ≤ℤ x
    → neg_ℤ (pos (1999998000000000 * (n + 1))) ≤ℤ (z +ℤ x)
low_added n z x low least = omega (arith, ints)

high_added : (n : ℕ) (z x : ℤ) → z ≤ℤ pos (1999998000000000 * n) → x ≤ℤ pos 1999998000000000
    → (z +ℤ x) ≤ℤ pos (1999998000000000 * (n + 1))
high_added n z x high most = omega (arith, ints)

room_added : (s : Side) (q : ℕ) (p : ℤ) (t : MonthTotals) (n : ℕ) → q ≤ 999999 → neg_ℤ (pos 2000000000) ≤ℤ p
    → p ≤ℤ pos 2000000000 → HasRoom n t → HasRoom (n + 1) (plus_leg s q p t)
room_added Buy q p t n few low high h = record {
  bought = lots_added n t.bought q h.bought few;
  sold = lots_more n (n + 1) t.sold (one_more n) h.sold;
  paid_low = low_added n t.paid (pos q *ℤ p) h.paid_low (money_low q p few low high);
  paid_high = high_added n t.paid (pos q *ℤ p) h.paid_high (money_high q p few low high);
  received_low = low_more n (n + 1) t.received (one_more n) h.received_low;
  received_high = high_more n (n + 1) t.received (one_more n) h.received_high;
}
room_added Sell q p t n few low high h = record {
  bought = lots_more n (n + 1) t.bought (one_more n) h.bought;
  sold = lots_added n t.sold q h.sold few;
  paid_low = low_more n (n + 1) t.paid (one_more n) h.paid_low;
  paid_high = high_more n (n + 1) t.paid (one_more n) h.paid_high;
  received_low = low_added n t.received (pos q *ℤ p) h.received_low (money_low q p few low high);
  received_high = high_added n t.received (pos q *ℤ p) h.received_high (money_high q p few low high);
}

some_below : (n : ℕ) → 0 < suc n
some_below n = omega arith

next_below : (k n : ℕ) → k < n → suc k < suc n
next_below k n lt = omega arith

room_at : (n : ℕ) (ts : List MonthTotals) (m : ℕ) → All (HasRoom n) ts → HasRoom n (get_or ts m empty_month)
room_at n [] m h = room_none n
room_at n (t ∷ ts) zero h = h 0 empty_month (some_below (length ts))
room_at n (t ∷ ts) (suc m) h = room_at n ts m (λ k d lt. h (suc k) d (next_below k (length ts) lt))

pub room_leg : (n : ℕ) (ts : List MonthTotals) (l : Leg) → IsLegInRange l → All (HasRoom n) ts
    → All (HasRoom (n + 1)) (with_leg ts l)
room_leg n ts l small h =
    All-set (HasRoom (n + 1)) ts l.month (plus_leg l.side l.quantity l.price (get_or ts l.month empty_month))
    (room_added l.side l.quantity l.price (get_or ts l.month empty_month) n small.quantity small.price.low
    small.price.high (room_at n ts l.month h))
    (λ k d lt. room_more n (n + 1) (get_or ts k d) (omega arith) (h k d lt))

room_by : (i : Instrument) (s : Side) (q : ℕ) (p x y : ℤ) (n : ℕ) (ts : List MonthTotals) → q ≤ 999999
    → neg_ℤ (pos 2000000000) ≤ℤ p → p ≤ℤ pos 2000000000 → neg_ℤ (pos 2000000000) ≤ℤ x → x ≤ℤ pos 2000000000
    → neg_ℤ (pos 2000000000) ≤ℤ y → y ≤ℤ pos 2000000000
    → All (HasRoom n) ts → All (HasRoom (n + 2)) (fold with_leg ts (legs_by i s q p x y))
room_by (Outright m) s q p x y n ts few pl ph xl xh yl yh h = λ k d lt.
    let l : Leg = record { month = m; side = s; quantity = q; price = p } in
    room_more (n + 1) (n + 2) (get_or (with_leg ts l) k d) (omega arith)
    (room_leg n ts l (record { quantity = few; price = record { low = pl; high = ph } }) h k d lt)
room_by (Spread i j) s q p x y n ts few pl ph xl xh yl yh h =
    let a : Leg = record { month = i; side = s; quantity = q; price = x } in
    let b : Leg = record { month = j; side = other_side s; quantity = q; price = y } in
    λ k d lt. room_more (n + 1 + 1) (n + 2) (get_or (with_leg (with_leg ts a) b) k d) (omega arith)
    (room_leg (n + 1) (with_leg ts a) b (record { quantity = few; price = record { low = yl; high = yh } })
    (room_leg n ts a (record { quantity = few; price = record { low = xl; high = xh } }) h) k d lt)

pub room_fill : (n : ℕ) (ts : List MonthTotals) (f : Fill) → IsSummable f → All (HasRoom n) ts
    → All (HasRoom (n + 2)) (with_fill ts f)
room_fill n ts f s h = room_by f.instrument f.side f.quantity f.price f.near f.far n ts s.0 s.1.low s.1.high s.2.low
    s.2.high s.3.low s.3.high h

pub room_fills : (fs : List Fill) (n : ℕ) (ts : List MonthTotals) → All IsSummable fs → All (HasRoom n) ts
    → All (HasRoom (n + 2 * length fs)) (fold with_fill ts fs)
room_fills [] n ts s h = λ k d lt. room_more n (n + 2 * length {A = Fill} []) (get_or ts k d) (omega arith) (h k d lt)
room_fills (f ∷ fs) n ts s h = λ k d lt.
    room_more (n + 2 + 2 * length fs) (n + 2 * length (f ∷ fs)) (get_or (fold with_fill (with_fill ts f) fs) k d)
    (omega arith)
    (room_fills fs (n + 2) (with_fill ts f) (λ i e less. s (suc i) e (omega (arith, less)))
    (room_fill n ts f (s 0 f (omega arith)) h) k d lt)

-- ---- the sums

same_totals : (a b a' b' : ℕ) (x y x' y' : ℤ) → a ≡ a' → b ≡ b' → x ≡ x' → y ≡ y'
    → (let t : MonthTotals = record { bought = a; sold = b; paid = x; received = y } in t) ≡
    (let t : MonthTotals = record { bought = a'; sold = b'; paid = x'; received = y' } in t)
same_totals a b a' b' x y x' y' e f g h = cc

zero_apart : (m : ℕ) → (zero == suc m) ≡ false
zero_apart m = grind (arith, nat_tests)

suc_apart : (i : ℕ) → (suc i == zero) ≡ false
suc_apart i = grind (arith, nat_tests)

suc_same : (i m : ℕ) → (suc i == suc m) ≡ (i == m)
suc_same i m = grind (arith, nat_tests)

same_of : (i m : ℕ) → (i == m) ≡ true → i ≡ m
same_of i m h = grind (arith, nat_tests)

at_set : (ts : List MonthTotals) (i m : ℕ) (v d : MonthTotals) → m < length ts
    → get_or (set ts i v) m d ≡ cond (i == m) v (get_or ts m d)
at_set [] i m v d lt = absurd (omega arith)
at_set (t ∷ ts) zero zero v d lt = refl
at_set (t ∷ ts) zero (suc m) v d lt = rw (zero_apart m) refl
at_set (t ∷ ts) (suc i) zero v d lt = rw (suc_apart i) refl
at_set (t ∷ ts) (suc i) (suc m) v d lt = rw (suc_same i m) (at_set ts i m v d (omega arith))

-- a month's sums with one more leg
abbrev pub after_leg : MonthTotals → ℕ → Leg → MonthTotals
after_leg t m l = record {
  bought = t.bought + quantity_in Buy m l;
  sold = t.sold + quantity_in Sell m l;
  paid = t.paid +ℤ money_in Buy m l;
  received = t.received +ℤ money_in Sell m l;
}

abbrev pub after_legs : MonthTotals → ℕ → List Leg → MonthTotals
after_legs t m ls = record {
  bought = t.bought + quantities Buy m ls;
  sold = t.sold + quantities Sell m ls;
  paid = t.paid +ℤ money_of_legs Buy m ls;
  received = t.received +ℤ money_of_legs Sell m ls;
}

no_lots : (n : ℕ) → n ≡ n + 0
no_lots n = omega arith

no_money : (z : ℤ) → z ≡ z +ℤ pos 0
no_money z = omega (arith, ints)

cond_step : (b : Bool) (s : Side) (q : ℕ) (p : ℤ) (t u : MonthTotals) → (b ≡ true → t ≡ u)
    → cond b (plus_leg s q p t) u ≡ record {
      bought = u.bought + cond (is_side Buy s && b) q 0;
      sold = u.sold + cond (is_side Sell s && b) q 0;
      paid = u.paid +ℤ cond (is_side Buy s && b) (pos q *ℤ p) (pos 0);
      received = u.received +ℤ cond (is_side Sell s && b) (pos q *ℤ p) (pos 0);
    }
cond_step false Buy q p t u h = same_totals u.bought u.sold _ _ u.paid u.received _ _ (no_lots u.bought)
    (no_lots u.sold) (no_money u.paid) (no_money u.received)
cond_step false Sell q p t u h = same_totals u.bought u.sold _ _ u.paid u.received _ _ (no_lots u.bought)
    (no_lots u.sold) (no_money u.paid) (no_money u.received)
cond_step true Buy q p t u h = ap (λ (x : MonthTotals). plus_leg Buy q p x) (h refl)
    ∙ same_totals (u.bought + q) u.sold _ _ (u.paid +ℤ (pos q *ℤ p)) u.received _ _ refl (no_lots u.sold) refl
    (no_money u.received)
cond_step true Sell q p t u h = ap (λ (x : MonthTotals). plus_leg Sell q p x) (h refl)
    ∙ same_totals u.bought (u.sold + q) _ _ u.paid (u.received +ℤ (pos q *ℤ p)) _ _ (no_lots u.bought) refl
    (no_money u.paid) refl

get_any : (ts : List MonthTotals) (m : ℕ) (d e : MonthTotals) → m < length ts → get_or ts m d ≡ get_or ts m e
get_any [] m d e lt = absurd (omega arith)
get_any (t ∷ ts) zero d e lt = refl
get_any (t ∷ ts) (suc m) d e lt = get_any ts m d e (omega arith)

get_same : (ts : List MonthTotals) (i m : ℕ) (d e : MonthTotals) → m < length ts → (i == m) ≡ true
    → get_or ts i d ≡ get_or ts m e
get_same ts i m d e lt h = rw (same_of i m h) (get_any ts m d e lt)

one_leg : (ts : List MonthTotals) (l : Leg) (m : ℕ) (d : MonthTotals) → m < length ts
    → get_or (with_leg ts l) m d ≡ after_leg (get_or ts m d) m l
one_leg ts l m d lt =
    at_set ts l.month m (plus_leg l.side l.quantity l.price (get_or ts l.month empty_month)) d lt
    ∙ cond_step (l.month == m) l.side l.quantity l.price (get_or ts l.month empty_month) (get_or ts m d)
    (λ h. get_same ts l.month m empty_month d lt h)

lots_assoc : (a b n : ℕ) → a + b + n ≡ a + (b + n)
lots_assoc a b n = omega arith

money_assoc : (x y z : ℤ) → (x +ℤ y) +ℤ z ≡ x +ℤ (y +ℤ z)
money_assoc x y z = omega (arith, ints)

pub fold_is : (ls : List Leg) (ts : List MonthTotals) (m : ℕ) (d : MonthTotals) → m < length ts
    → get_or (fold with_leg ts ls) m d ≡ after_legs (get_or ts m d) m ls
fold_is [] ts m d lt = let u = get_or ts m d in same_totals u.bought u.sold _ _ u.paid u.received _ _ (no_lots u.bought)
    (no_lots u.sold) (no_money u.paid) (no_money u.received)
fold_is (l ∷ ls) ts m d lt =
    let len = length-set ts l.month (plus_leg l.side l.quantity l.price (get_or ts l.month empty_month)) in
    let u = get_or ts m d in
    fold_is ls (with_leg ts l) m d (omega (arith, len))
    ∙ (ap (λ (t : MonthTotals). after_legs t m ls) (one_leg ts l m d lt)
    ∙ same_totals _ _ _ _ _ _ _ _ (lots_assoc u.bought (quantity_in Buy m l) (quantities Buy m ls))
    (lots_assoc u.sold (quantity_in Sell m l) (quantities Sell m ls))
    (money_assoc u.paid (money_in Buy m l) (money_of_legs Buy m ls))
    (money_assoc u.received (money_in Sell m l) (money_of_legs Sell m ls)))

pub fold_fills : (fs : List Fill) (ts : List MonthTotals) → fold with_fill ts fs ≡ fold with_leg ts (legs fs)
fold_fills [] ts = refl
fold_fills (f ∷ fs) ts = fold_fills fs (with_fill ts f) ∙ sym (fold-append with_leg ts (legs_in f) (legs fs))

none_summed : All (λ t. t ≡ empty_month) empty_months
none_summed = All-replicate (λ t. t ≡ empty_month) 24 empty_month refl

from_no_lots : (n : ℕ) → 0 + n ≡ n
from_no_lots n = omega arith

from_no_money : (z : ℤ) → pos 0 +ℤ z ≡ z
from_no_money z = omega (arith, ints)

-- from nothing, the sums of all fills
pub sums_are : (fs : List Fill) → AreTotals fs (fold with_fill empty_months fs)
sums_are fs = λ m d lt.
    let len = length-replicate 24 empty_month in
    let less : m < length empty_months = omega (arith, len, lt) in
    ap (λ (xs : List MonthTotals). get_or xs m d) (fold_fills fs empty_months)
    ∙ (fold_is (legs fs) empty_months m d less
    ∙ (ap (λ (t : MonthTotals). after_legs t m (legs fs)) (none_summed m d less)
    ∙ same_totals _ _ _ _ _ _ _ _
    (from_no_lots (quantities Buy m (legs fs)) ∙ sym (bought_is m fs))
    (from_no_lots (quantities Sell m (legs fs)) ∙ sym (sold_is m fs))
    (from_no_money (money_of_legs Buy m (legs fs)) ∙ sym (paid_is m fs))
    (from_no_money (money_of_legs Sell m (legs fs)) ∙ sym (received_is m fs))))

-- room for the far leg of a spread
pub room_far : (ts us : List MonthTotals) (month : ℕ) (s : Side) (f : Fill)
    → us ≡ with_leg ts (record { month = month; side = s; quantity = f.quantity; price = to_z w64 (of_z w64 f.near) })
    → IsSummable f → All (HasRoom (2 ^ 66)) ts → All (HasRoom (2 ^ 67)) us
room_far ts us month s f is sum h =
    let l : Leg = record { month = month; side = s; quantity = f.quantity; price = f.near } in
    let fits : FitsSigned w64 f.near = let low = sum.2.low in let high = sum.2.high in omega (arith, ints) in
    let same = rw (to_z-of_z w64 f.near fits) at is in
    subst (λ (t : List MonthTotals). All (HasRoom (2 ^ 67)) t) (sym same)
    (λ k d lt. room_more (2 ^ 66 + 1) (2 ^ 67) (get_or (with_leg ts l) k d) (omega arith)
    (room_leg (2 ^ 66) ts l (record { quantity = sum.0; price = sum.2 }) h k d lt))

-- the sums of the fills so far
pub sums_taken : (fs : List Fill) (n : ℕ) (ts : List MonthTotals) → ts ≡ fold with_fill empty_months (take n fs)
    → length fs ≤ n → AreTotals fs ts
sums_taken fs n ts is end = let all = take_all n fs end in
    subst (λ (t : List MonthTotals). AreTotals fs t) (sym
    (is ∙ ap (λ (xs : List Fill). fold with_fill empty_months xs) all)) (sums_are fs)

-- one fill more
fold_next : (fs : List Fill) (i : ℕ) (d : Fill) (ts : List MonthTotals) → i < length fs
    → fold with_fill ts (take (i + 1) fs) ≡ with_fill (fold with_fill ts (take i fs)) (get_or fs i d)
fold_next [] i d ts lt = absurd (omega arith)
fold_next (f ∷ fs) zero d ts lt = refl
fold_next (f ∷ fs) (suc i) d ts lt =
    let e : suc i + 1 ≡ suc (i + 1) = omega arith in
    ap (λ (n : ℕ). fold with_fill ts (take n (f ∷ fs))) e ∙ fold_next fs i d (with_fill ts f) (omega (arith, lt))

pub fill_added : (fs : List Fill) (i : ℕ) (f : Fill) (before after : List MonthTotals) → f ≡ get_or fs i f
    → i < length fs
    → before ≡ fold with_fill empty_months (take i fs) → after ≡ with_fill before f
    → after ≡ fold with_fill empty_months (take (i + 1) fs)
fill_added fs i f before after is lt was added =
    added
    ∙ (ap (λ (ts : List MonthTotals). with_fill ts f) was
    ∙ (ap (λ (x : Fill). with_fill (fold with_fill empty_months (take i fs)) x) is
    ∙ sym (fold_next fs i f empty_months lt)))

pub room_taken : (fs : List Fill) (n : ℕ) (ts : List MonthTotals) → ts ≡ fold with_fill empty_months (take n fs)
    → All IsSummable fs → n < 2 ^ 64 → All (HasRoom (2 ^ 66)) ts
room_taken fs n ts is all few =
    let start : All (HasRoom 0) empty_months = λ k d lt. subst (HasRoom 0) (sym (none_summed k d lt)) (room_none 0) in
    subst (λ (t : List MonthTotals). All (HasRoom (2 ^ 66)) t) (sym is)
    (λ k d lt. room_more (0 + 2 * length (take n fs)) (2 ^ 66) (get_or (fold with_fill empty_months (take n fs)) k d)
    (omega (arith, length-take n fs))
    (room_fills (take n fs) 0 empty_months (All-take IsSummable n fs all) start k d lt))

-- ---- one addition of the code

-- sums with room, and with one leg's money more, fit 128 bits
room_128 : (z : ℤ) → neg_ℤ (pos (1999998000000000 * 2 ^ 67)) ≤ℤ z → z ≤ℤ pos (1999998000000000 * 2 ^ 67)
    → to_z w128 (of_z w128 z) ≡ z
room_128 z low high = fits_128 z (omega (arith, ints)) (omega (arith, ints))

more_128 : (z : ℤ) → neg_ℤ (pos (1999998000000000 * (2 ^ 67 + 1))) ≤ℤ z → z ≤ℤ pos (1999998000000000 * (2 ^ 67 + 1))
    → to_z w128 (of_z w128 z) ≡ z
more_128 z low high = fits_128 z (omega (arith, ints)) (omega (arith, ints))

money_128 : (z : ℤ) → neg_ℤ (pos 1999998000000000) ≤ℤ z → z ≤ℤ pos 1999998000000000 → to_z w128 (of_z w128 z) ≡ z
money_128 z low high = fits_128 z (omega (arith, ints)) (omega (arith, ints))

lots_128 : (q : ℕ) → q ≤ 999999 → to_z w128 (of_z w128 (pos q)) ≡ pos q
lots_128 q few = fits_128 (pos q) (omega (arith, ints)) (omega (arith, ints))

-- money is added as it is
money_added : (q : ℕ) (p y x z : ℤ) → y ≡ pos q → x ≡ p → q ≤ 999999 → neg_ℤ (pos 2000000000) ≤ℤ p → p ≤ℤ pos 2000000000
    → neg_ℤ (pos (1999998000000000 * 2 ^ 67)) ≤ℤ z → z ≤ℤ pos (1999998000000000 * 2 ^ 67)
    → to_z w128 (of_z w128 (to_z w128 (of_z w128 z) +ℤ to_z w128
    (of_z w128 (to_z w128 (of_z w128 y) *ℤ to_z w128 (of_z w128 x))))) ≡ z +ℤ (pos q *ℤ p)
money_added q p y x z f g few low high room_low room_high =
    let least = money_low q p few low high in
    let most = money_high q p few low high in
    let whole = more_128 (z +ℤ (pos q *ℤ p)) (low_added (2 ^ 67) z (pos q *ℤ p) room_low least)
    (high_added (2 ^ 67) z (pos q *ℤ p) room_high most) in
    rw (
      f,
      g,
      lots_128 q few,
      small_128 p low high,
      money_128 (pos q *ℤ p) least most,
      room_128 z room_low room_high,
      whole,
    ) refl

-- and fits
fits_money : (z : ℤ) → neg_ℤ (pos 1999998000000000) ≤ℤ z → z ≤ℤ pos 1999998000000000 → FitsSigned w128 z
fits_money z low high = omega (arith, ints)

pub money_fits : (q : ℕ) (p y x : ℤ) → y ≡ pos q → x ≡ p → q ≤ 999999 → neg_ℤ (pos 2000000000) ≤ℤ p
    → p ≤ℤ pos 2000000000 → FitsSigned w128 (to_z w128 (of_z w128 y) *ℤ to_z w128 (of_z w128 x))
money_fits q p y x f g few low high = rw (f, g, lots_128 q few, small_128 p low high)
    (fits_money (pos q *ℤ p) (money_low q p few low high) (money_high q p few low high))

fits_more : (z : ℤ) → neg_ℤ (pos (1999998000000000 * (2 ^ 67 + 1))) ≤ℤ z → z ≤ℤ pos (1999998000000000 * (2 ^ 67 + 1))
    → FitsSigned w128 z
fits_more z low high = omega (arith, ints)

pub sum_fits : (q : ℕ) (p y x z : ℤ) → y ≡ pos q → x ≡ p → q ≤ 999999 → neg_ℤ (pos 2000000000) ≤ℤ p
    → p ≤ℤ pos 2000000000
    → neg_ℤ (pos (1999998000000000 * 2 ^ 67)) ≤ℤ z → z ≤ℤ pos (1999998000000000 * 2 ^ 67)
    → FitsSigned w128 (to_z w128 (of_z w128 z) +ℤ to_z w128
    (of_z w128 (to_z w128 (of_z w128 y) *ℤ to_z w128 (of_z w128 x))))
sum_fits q p y x z f g few low high room_low room_high =
    let least = money_low q p few low high in
    let most = money_high q p few low high in
    rw (f, g, lots_128 q few, small_128 p low high, money_128 (pos q *ℤ p) least most, room_128 z room_low room_high)
    (fits_more (z +ℤ (pos q *ℤ p)) (low_added (2 ^ 67) z (pos q *ℤ p) room_low least)
    (high_added (2 ^ 67) z (pos q *ℤ p) room_high most))

pub lots_fit : (n k q : ℕ) → k ≡ q → q ≤ 999999 → n ≤ 999999 * 2 ^ 67 → n + k < 2 ^ 128
lots_fit n k q same few most = omega arith

pub added_buy : (s : Side) (q k : ℕ) (p y x : ℤ) (t : MonthTotals) → s ≡ Buy → k ≡ q → y ≡ pos q → x ≡ p → q ≤ 999999
    → neg_ℤ (pos 2000000000) ≤ℤ p → p ≤ℤ pos 2000000000 → HasRoom (2 ^ 67) t
    → (let u : MonthTotals = record {
      bought = t.bought + k;
      sold = t.sold;
      paid =
          to_z w128 (of_z w128 (to_z w128 (of_z w128 t.paid) +ℤ to_z w128
          (of_z w128 (to_z w128 (of_z w128 y) *ℤ to_z w128 (of_z w128 x)))));
      received = t.received;
    } in u) ≡ plus_leg s q
    p t
added_buy s q k p y x t is e f g few low high room =
    same_totals (t.bought + k) t.sold (t.bought + q) t.sold _ t.received _ t.received (ap (λ (n : ℕ). t.bought + n) e)
    refl (money_added q p y x t.paid f g few low high room.paid_low room.paid_high) refl
    ∙ ap (λ (side : Side). plus_leg side q p t) (sym is)

pub added_sell : (s : Side) (q k : ℕ) (p y x : ℤ) (t : MonthTotals) → s ≡ Sell → k ≡ q → y ≡ pos q → x ≡ p → q ≤ 999999
    → neg_ℤ (pos 2000000000) ≤ℤ p → p ≤ℤ pos 2000000000 → HasRoom (2 ^ 67) t
    → (let u : MonthTotals = record {
      bought = t.bought;
      sold = t.sold + k;
      paid = t.paid;
      received =
          to_z w128 (of_z w128 (to_z w128 (of_z w128 t.received) +ℤ to_z w128
          (of_z w128 (to_z w128 (of_z w128 y) *ℤ to_z w128 (of_z w128 x)))));
    } in u) ≡ plus_leg s q p t
added_sell s q k p y x t is e f g few low high room =
    same_totals t.bought (t.sold + k) t.bought (t.sold + q) t.paid _ t.paid _ refl (ap (λ (n : ℕ). t.sold + n) e) refl
    (money_added q p y x t.received f g few low high room.received_low room.received_high)
    ∙ ap (λ (side : Side). plus_leg side q p t) (sym is)
