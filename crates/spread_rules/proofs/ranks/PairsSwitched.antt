-- A pair of months that takes part in implied trading, and one that does not.
use Rattle.std.proofs.Common.{◌≡◌, Bool, true, false, not, ◌&&◌, ◌==◌, Option, Some, None, refl, sym, ap, ◌∙◌}
use Rattle.spread_rules.specs.declared.order.Order.{Order}
use Rattle.spread_rules.specs.declared.order.Side.{Side}
use Rattle.spread_rules_rulebook.specs.declared.instrument.Instrument.{Instrument}
use Rattle.spread_rules_rulebook.specs.declared.instrument.Instrument.TheVariants.{Outright, Spread}
use Rattle.spread_rules.specs.declared.candidate.Counterparty.TheVariants.{Direct, Implied}
use Rattle.spread_rules.specs.code.Cases.{step, offered_if}
use Rattle.spread_rules.specs.Candidates.{Pairs, price_of_three, price_of}
use Rattle.spread_rules.specs.code.Candidates.{all_on, takes_part, implied_price, candidate_at, candidate_of}
use Rattle.spread_rules.specs.Legs.{is_side}
use Rattle.std.specs.Prelude.{ℤ, ◌+ℤ◌, ◌-ℤ◌, if◌then◌else◌, List, [], ◌∷◌, map, fold}
use Rattle.spread_rules.specs.declared.candidate.Candidate.{Candidate}

-- ---- the price of three, where the pair of months takes part

two_rows : (t a b c d e f g h : Bool) (p q : ℤ) → (if t && a && b && c && d then Some p else if t && e && f && g && h
    then Some q else None) ≡ offered_if t (if a && b && c && d then Some p else if e && f && g && h then Some q else
    None)
two_rows true a b c d e f g h p q = refl
two_rows false a b c d e f g h p q = refl

one_row : (t a b c d : Bool) (p : ℤ) → (if t && a && b && c && d then Some p else None) ≡ offered_if t
    (if a && b && c && d then Some p else None)
one_row true a b c d p = refl
one_row false a b c d p = refl

no_row : (t : Bool) → ◌≡◌ {A = Option ℤ} None (offered_if t None)
no_row true = refl
no_row false = refl

three_switched : (on : Pairs) (s : Side) (I : Instrument) (sa : Side) (A : Instrument) (sb : Side) (B : Instrument)
    (x y : ℤ) → price_of_three on s I sa A sb B x y ≡ offered_if (takes_part on I A) (implied_price s I sa A sb B x y)
three_switched on s (Outright m) sa (Outright k) sb B x y = refl
three_switched on s (Outright m) sa (Spread i j) sb (Outright k) x y =
    two_rows (on i j) (not (is_side s sa)) (not (is_side s sb)) (m == i) (k == j) (is_side s sa) (not (is_side s sb))
    (m == j) (k == i) (x +ℤ y) (y -ℤ x)
three_switched on s (Outright m) sa (Spread i j) sb (Spread k l) x y = no_row (on i j)
three_switched on s (Spread i j) sa (Outright k) sb (Outright l) x y =
    one_row (on i j) (not (is_side s sa)) (is_side s sb) (k == i) (l == j) (x -ℤ y)
three_switched on s (Spread i j) sa (Outright k) sb (Spread l m) x y = no_row (on i j)
three_switched on s (Spread i j) sa (Spread k l) sb B x y = no_row (on i j)

pub price_switched : (on : Pairs) (n a b : Order) → price_of on n (Implied a b) ≡ offered_if
    (takes_part on n.instrument a.instrument) (implied_price n.side n.instrument a.side a.instrument b.side b.instrument
    a.price b.price)
price_switched on n a b = three_switched on n.side n.instrument a.side a.instrument b.side b.instrument a.price b.price

-- what is offered has its price, and takes part
offered_at : (b : Bool) (r : Option ℤ) (p : ℤ) → offered_if b r ≡ Some p → r ≡ Some p
offered_at true None p h = cc
offered_at false None p h = cc
offered_at true (Some q) p h = h
offered_at false (Some q) p h = cc

was_on : (b : Bool) (r : Option ℤ) (p : ℤ) → offered_if b r ≡ Some p → b ≡ true
was_on true r p h = refl
was_on false None p h = cc
was_on false (Some q) p h = cc

on_again : (b : Bool) (r : Option ℤ) (q : ℤ) → b ≡ true → r ≡ Some q → offered_if b r ≡ Some q
on_again true None q h k = cc
on_again true (Some x) q h k = k
on_again false r q h k = cc

module _ (on : Pairs) (n a b : Order) (p : ℤ) where
  -- two orders that meet the new one do so where all pairs take part too
  pub priced : price_of on n (Implied a b) ≡ Some p → implied_price n.side n.instrument a.side a.instrument b.side
      b.instrument a.price b.price ≡ Some p
  priced h = offered_at (takes_part on n.instrument a.instrument)
      (implied_price n.side n.instrument a.side a.instrument b.side b.instrument a.price b.price) p
      (sym (price_switched on n a b) ∙ h)

  -- their pair of months takes part
  pub part_of : price_of on n (Implied a b) ≡ Some p → takes_part on n.instrument a.instrument ≡ true
  part_of h = was_on (takes_part on n.instrument a.instrument)
      (implied_price n.side n.instrument a.side a.instrument b.side b.instrument a.price b.price) p
      (sym (price_switched on n a b) ∙ h)

  -- and whoever does both meets it
  pub priced_again : takes_part on n.instrument a.instrument ≡ true
      → implied_price n.side n.instrument a.side a.instrument b.side b.instrument a.price b.price ≡ Some p
      → price_of on n (Implied a b) ≡ Some p
  priced_again t h = price_switched on n a b ∙ on_again (takes_part on n.instrument a.instrument)
      (implied_price n.side n.instrument a.side a.instrument b.side b.instrument a.price b.price) p t h

-- a pair that takes part meets the order at the price at which it does where all do
pub price_on : (on : Pairs) (n a b : Order) → takes_part on n.instrument a.instrument ≡ true
    → price_of on n (Implied a b) ≡ price_of all_on n (Implied a b)
price_on on n a b is =
    let price : Option ℤ = implied_price n.side n.instrument a.side a.instrument b.side b.instrument a.price b.price in
    price_switched on n a b ∙ ap (λ t. offered_if t price) is

offered_off : (price : Option ℤ) → offered_if false price ≡ None
offered_off None = refl
offered_off (Some price) = refl

-- one that does not meets none
pub price_off : (on : Pairs) (n a b : Order) → takes_part on n.instrument a.instrument ≡ false
    → price_of on n (Implied a b) ≡ None
price_off on n a b is =
    let price : Option ℤ = implied_price n.side n.instrument a.side a.instrument b.side b.instrument a.price b.price in
    price_switched on n a b ∙ (ap (λ t. offered_if t price) is ∙ offered_off price)

pub candidate_on : (on : Pairs) (n a b : Order) → takes_part on n.instrument a.instrument ≡ true
    → candidate_of on n (Implied a b) ≡ candidate_of all_on n (Implied a b)
candidate_on on n a b is = ap (candidate_at n (Implied a b)) (price_on on n a b is)

pub candidate_off : (on : Pairs) (n a b : Order) → takes_part on n.instrument a.instrument ≡ false
    → candidate_of on n (Implied a b) ≡ None
candidate_off on n a b is = ap (candidate_at n (Implied a b)) (price_off on n a b is)

-- singles ask no pair
pub singles_same : (on : Pairs) (n : Order) (best : Option Candidate) (xs : List Order)
    → fold (step all_on n) best (map Direct xs) ≡ fold (step on n) best (map Direct xs)
singles_same on n best [] = refl
singles_same on n best (x ∷ xs) = singles_same on n (step on n best (Direct x)) xs
