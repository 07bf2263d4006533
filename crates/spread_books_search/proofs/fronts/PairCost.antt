-- what a pair costs is the sum of what its members cost
use Rattle.std.proofs.Common.{◌≡◌, ℕ, ◌≤◌, ℤ, ◌+ℤ◌, ◌-ℤ◌, ◌≤ℤ◌, Bool, true, false, Some, ◌⊎◌, inl, inr, refl, arith, Equal, Less, Greater}
use Rattle.std.proofs.lemmas.Bool.Decides.{nat_tests}
use Rattle.std.proofs.lemmas.Int.{ints}
use Rattle.std.specs.Ordering.{nat_cmp, int_cmp, bool_cmp, ordering_then, is_lt}
use Rattle.std.specs.declared.cmp.Ordering.{Ordering}
use Rattle.std.proofs.lemmas.Cmp.{ranked, int_ranked}
use Rattle.spread_rules.specs.declared.order.Side.{Side}
use Rattle.spread_rules.specs.declared.order.Side.TheVariants.{Buy, Sell}
use Rattle.spread_rules_rulebook.specs.declared.instrument.Instrument.{Instrument}
use Rattle.spread_rules_rulebook.specs.declared.instrument.Instrument.TheVariants.{Outright, Spread}
use Rattle.spread_rules.specs.code.Cases.{price_if}
use Rattle.spread_rules.specs.Candidates.{cost, is_within_limit, rank_cmp}
use Rattle.spread_rules.specs.code.Candidates.{implied_price}
use Rattle.spread_rules.specs.Legs.{other_side}
use Rattle.spread_rules.proofs.clearings.BoughtIsSold.{so_is}

pub so_again : (b : Bool) (v w p : ℤ) → price_if b v ≡ Some p → price_if b w ≡ Some w
so_again true v w p h = refl
so_again false v w p h = cc

-- each line of the list of implied prices
pub implied_price_sum : (s : Side) (I : Instrument) (sa : Side) (A : Instrument) (sb : Side) (B : Instrument)
    (x y p : ℤ) → implied_price s I sa A sb B x y ≡ Some p → cost s p ≡ cost (other_side sa) x +ℤ cost (other_side sb) y
implied_price_sum Buy (Outright m) Sell (Spread i j) Sell (Outright k) x y p h = let e = so_is _ _ p h in
    omega (arith, ints)
implied_price_sum Sell (Outright m) Buy (Spread i j) Buy (Outright k) x y p h = let e = so_is _ _ p h in
    omega (arith, ints)
implied_price_sum Buy (Outright m) Buy (Spread i j) Sell (Outright k) x y p h = let e = so_is _ _ p h in
    omega (arith, ints)
implied_price_sum Sell (Outright m) Sell (Spread i j) Buy (Outright k) x y p h = let e = so_is _ _ p h in
    omega (arith, ints)
implied_price_sum Buy (Spread i j) Sell (Outright k) Buy (Outright l) x y p h = let e = so_is _ _ p h in
    omega (arith, ints)
implied_price_sum Sell (Spread i j) Buy (Outright k) Sell (Outright l) x y p h = let e = so_is _ _ p h in
    omega (arith, ints)
implied_price_sum _ (Outright m) _ (Outright n) _ (Outright k) x y p h = cc
implied_price_sum _ (Outright m) _ (Outright n) _ (Spread k l) x y p h = cc
implied_price_sum _ (Outright m) _ (Spread w z) _ (Outright k) x y p h = cc
implied_price_sum _ (Outright m) _ (Spread w z) _ (Spread k l) x y p h = cc
implied_price_sum _ (Spread i j) _ (Outright n) _ (Outright k) x y p h = cc
implied_price_sum _ (Spread i j) _ (Outright n) _ (Spread k l) x y p h = cc
implied_price_sum _ (Spread i j) _ (Spread w z) _ (Outright k) x y p h = cc
implied_price_sum _ (Spread i j) _ (Spread w z) _ (Spread k l) x y p h = cc

-- whether a pair is in the list of implied prices doesn't depend on prices
pub implied_price_again : (s : Side) (I : Instrument) (sa : Side) (A : Instrument) (sb : Side) (B : Instrument)
    (x y p u v : ℤ) → implied_price s I sa A sb B x y ≡ Some p → (q : ℤ) × (implied_price s I sa A sb B u v ≡ Some q)
implied_price_again Buy (Outright m) Sell (Spread i j) Sell (Outright k) x y p u v h = (u +ℤ v, so_again _ _ _ p h)
implied_price_again Sell (Outright m) Buy (Spread i j) Buy (Outright k) x y p u v h = (u +ℤ v, so_again _ _ _ p h)
implied_price_again Buy (Outright m) Buy (Spread i j) Sell (Outright k) x y p u v h = (v -ℤ u, so_again _ _ _ p h)
implied_price_again Sell (Outright m) Sell (Spread i j) Buy (Outright k) x y p u v h = (v -ℤ u, so_again _ _ _ p h)
implied_price_again Buy (Spread i j) Sell (Outright k) Buy (Outright l) x y p u v h = (u -ℤ v, so_again _ _ _ p h)
implied_price_again Sell (Spread i j) Buy (Outright k) Sell (Outright l) x y p u v h = (u -ℤ v, so_again _ _ _ p h)
implied_price_again _ (Outright m) _ (Outright n) _ (Outright k) x y p u v h = cc
implied_price_again _ (Outright m) _ (Outright n) _ (Spread k l) x y p u v h = cc
implied_price_again _ (Outright m) _ (Spread w z) _ (Outright k) x y p u v h = cc
implied_price_again _ (Outright m) _ (Spread w z) _ (Spread k l) x y p u v h = cc
implied_price_again _ (Spread i j) _ (Outright n) _ (Outright k) x y p u v h = cc
implied_price_again _ (Spread i j) _ (Outright n) _ (Spread k l) x y p u v h = cc
implied_price_again _ (Spread i j) _ (Spread w z) _ (Outright k) x y p u v h = cc
implied_price_again _ (Spread i j) _ (Spread w z) _ (Spread k l) x y p u v h = cc

-- what costs no more is within the same limit
pub within_cost : (side : Side) (limit p q : ℤ) → is_within_limit side limit p ≡ true → cost side q ≤ℤ cost side p
    → is_within_limit side limit q ≡ true
within_cost Buy limit p q h l = grind (arith, ints)
within_cost Sell limit p q h l = grind (arith, ints)

-- what comparing two keys and then two places says
pub behind : (x y : ℤ) (m k : ℕ) → is_lt (ordering_then (int_cmp x y) (nat_cmp m k)) ≡ false → (y ≤ℤ x)
    × (x ≡ y → k ≤ m)
behind x y m k h = (grind (arith, ints, nat_tests), λ e. grind (arith, ints, nat_tests))

int_no_less : (x y : ℤ) (o : Ordering) → o ≡ int_cmp x y → y ≤ℤ x → (o ≡ Greater) ⊎ ((o ≡ Equal) × (x ≡ y))
int_no_less x y Less e l = let f = int_ranked x y Less e in absurd (omega (arith, ints))
int_no_less x y Equal e l = inr (refl, int_ranked x y Equal e)
int_no_less x y Greater e l = inl refl

nat_no_less : (x y : ℕ) (o : Ordering) → o ≡ nat_cmp x y → y ≤ x → (o ≡ Greater) ⊎ (o ≡ Equal)
nat_no_less x y Less e l = let f = ranked x y Less e in absurd (omega arith)
nat_no_less x y Equal e l = inr refl
nat_no_less x y Greater e l = inl refl

bool_itself : (b : Bool) → bool_cmp b b ≡ Equal
bool_itself true = refl
bool_itself false = refl

nat_itself : (m : ℕ) → nat_cmp m m ≡ Equal
nat_itself m = grind (arith, nat_tests)

-- a rank that costs no less, with places that are no earlier at one cost, is not before
after_places : (m k u v : ℕ) (o q : Ordering) → o ≡ nat_cmp m k → q ≡ nat_cmp u v → k ≤ m → v ≤ u
    → is_lt (ordering_then o q) ≡ false
after_places m k u v Less q e f h l = let c = ranked m k Less e in absurd (omega arith)
after_places m k u v Greater q e f h l = refl
after_places m k u v Equal Less e f h l = let c = ranked u v Less f in absurd (omega arith)
after_places m k u v Equal Equal e f h l = refl
after_places m k u v Equal Greater e f h l = refl

pub after_cost : (x y : ℤ) (o q : Ordering) → o ≡ int_cmp x y → y ≤ℤ x → (x ≡ y → is_lt q ≡ false)
    → is_lt (ordering_then o q) ≡ false
after_cost x y Less q e h l = let c = int_ranked x y Less e in absurd (omega (arith, ints))
after_cost x y Equal q e h l = l (int_ranked x y Equal e)
after_cost x y Greater q e h l = refl

pub rank_after : (x y : ℤ) (b : Bool) (month m k u v : ℕ) → y ≤ℤ x → (x ≡ y → (k ≤ m) × (v ≤ u)) →
    is_lt (rank_cmp (record { cost = x; implied = b; month = month; first = m; second = u })
    (record { cost = y; implied = b; month = month; first = k; second = v })) ≡ false
rank_after x y b month m k u v h l =
    after_cost x y (int_cmp x y) _ refl h (λ e. rw (bool_itself b, nat_itself month)
    (let c = l e in after_places m k u v (nat_cmp m k) (nat_cmp u v) refl refl c.0 c.1))

-- of two sums of two, no part of the first above that of the second
pub pair_le : (c d x y u v : ℤ) → c ≡ x +ℤ y → d ≡ u +ℤ v → x ≤ℤ u → y ≤ℤ v → c ≤ℤ d
pair_le c d x y u v e f h k = omega (arith, ints)

pub pair_same : (c d x y u v : ℤ) → c ≡ x +ℤ y → d ≡ u +ℤ v → x ≤ℤ u → y ≤ℤ v → d ≡ c → (u ≡ x) × (v ≡ y)
pair_same c d x y u v e f h k s = (omega (arith, ints), omega (arith, ints))
