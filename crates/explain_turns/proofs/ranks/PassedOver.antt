-- which pairs of orders meet no order
use Rattle.std.proofs.Common.{◌≡◌, ◌==◌, ◌&&◌, ◌||◌, Bool, true, false, List, [], ◌∷◌, map, fold, Option, Some, None, is_some, ℤ, ◌+ℤ◌, ◌-ℤ◌, refl, ap, ◌∙◌}
use Rattle.spread_rules.specs.declared.order.Side.{Side}
use Rattle.spread_rules.specs.declared.order.Side.TheVariants.{Buy, Sell}
use Rattle.spread_rules_rulebook.specs.declared.instrument.Instrument.{Instrument}
use Rattle.spread_rules_rulebook.specs.declared.instrument.Instrument.TheVariants.{Outright, Spread}
use Rattle.spread_rules.specs.declared.order.Order.{Order}
use Rattle.spread_rules.specs.declared.candidate.Candidate.{Candidate}
use Rattle.spread_rules.specs.declared.candidate.Counterparty.{Counterparty}
use Rattle.spread_rules.specs.declared.candidate.Counterparty.TheVariants.{Implied}
use Rattle.spread_rules.specs.code.Cases.{price_if, offered_if, better_of}
use Rattle.spread_rules.specs.Candidates.{Pairs}
use Rattle.spread_rules.specs.code.Candidates.{all_on, implied_price, takes_part, candidate_of, candidate_at}
use Rattle.spread_rules.proofs.ranks.PairsSwitched.{candidate_on, candidate_off, price_switched}
use Rattle.explain_turns.specs.code.Search.{may_be_first, next_step, only_behind}

no_price : (a b : Bool) (price : ℤ) → a ≡ false → price_if (a && b) price ≡ None
no_price true b price h = cc
no_price false true price h = refl
no_price false false price h = refl

left_no : (a b : Bool) → (a || b) ≡ false → a ≡ false
left_no true true h = h
left_no true false h = h
left_no false b h = refl

right_no : (a b : Bool) → (a || b) ≡ false → b ≡ false
right_no true true h = h
right_no false true h = h
right_no a false h = refl

first_no : (a : Bool) → (a && true) ≡ false → a ≡ false
first_no true h = h
first_no false h = refl

not_first : (side : Side) (traded : Instrument) (aside : Side) (a : Instrument) (bside : Side) (b : Instrument)
    (s p : ℤ) → may_be_first side traded aside a ≡ false → implied_price side traded aside a bside b s p ≡ None
not_first Buy (Outright m) Buy (Outright i) bside b s p h = refl
not_first Buy (Outright m) Sell (Outright i) bside b s p h = refl
not_first Sell (Outright m) Buy (Outright i) bside b s p h = refl
not_first Sell (Outright m) Sell (Outright i) bside b s p h = refl
not_first Buy (Outright m) Buy (Spread i j) Buy (Outright k) s p h = refl
not_first Buy (Outright m) Buy (Spread i j) Sell (Outright k) s p h =
    no_price (m == j) (k == i) (p -ℤ s) (first_no (m == j) (right_no (m == i && false) (m == j && true) h))
not_first Buy (Outright m) Sell (Spread i j) Buy (Outright k) s p h = refl
not_first Buy (Outright m) Sell (Spread i j) Sell (Outright k) s p h =
    no_price (m == i) (k == j) (s +ℤ p) (first_no (m == i) (left_no (m == i && true) (m == j && false) h))
not_first Sell (Outright m) Buy (Spread i j) Buy (Outright k) s p h =
    no_price (m == i) (k == j) (s +ℤ p) (first_no (m == i) (left_no (m == i && true) (m == j && false) h))
not_first Sell (Outright m) Buy (Spread i j) Sell (Outright k) s p h = refl
not_first Sell (Outright m) Sell (Spread i j) Buy (Outright k) s p h =
    no_price (m == j) (k == i) (p -ℤ s) (first_no (m == j) (right_no (m == i && false) (m == j && true) h))
not_first Sell (Outright m) Sell (Spread i j) Sell (Outright k) s p h = refl
not_first Buy (Outright m) Buy (Spread i j) Buy (Spread k l) s p h = refl
not_first Buy (Outright m) Buy (Spread i j) Sell (Spread k l) s p h = refl
not_first Buy (Outright m) Sell (Spread i j) Buy (Spread k l) s p h = refl
not_first Buy (Outright m) Sell (Spread i j) Sell (Spread k l) s p h = refl
not_first Sell (Outright m) Buy (Spread i j) Buy (Spread k l) s p h = refl
not_first Sell (Outright m) Buy (Spread i j) Sell (Spread k l) s p h = refl
not_first Sell (Outright m) Sell (Spread i j) Buy (Spread k l) s p h = refl
not_first Sell (Outright m) Sell (Spread i j) Sell (Spread k l) s p h = refl
not_first Buy (Spread i j) Buy (Outright k) bside (Outright l) s p h = refl
not_first Buy (Spread i j) Buy (Outright k) bside (Spread l m) s p h = refl
not_first Buy (Spread i j) Sell (Outright k) Buy (Outright l) s p h =
    no_price (k == i) (l == j) (s -ℤ p) (first_no (k == i) h)
not_first Buy (Spread i j) Sell (Outright k) Sell (Outright l) s p h = refl
not_first Buy (Spread i j) Sell (Outright k) Buy (Spread l m) s p h = refl
not_first Buy (Spread i j) Sell (Outright k) Sell (Spread l m) s p h = refl
not_first Sell (Spread i j) Sell (Outright k) bside (Outright l) s p h = refl
not_first Sell (Spread i j) Sell (Outright k) bside (Spread l m) s p h = refl
not_first Sell (Spread i j) Buy (Outright k) Buy (Outright l) s p h = refl
not_first Sell (Spread i j) Buy (Outright k) Sell (Outright l) s p h =
    no_price (k == i) (l == j) (s -ℤ p) (first_no (k == i) h)
not_first Sell (Spread i j) Buy (Outright k) Buy (Spread l m) s p h = refl
not_first Sell (Spread i j) Buy (Outright k) Sell (Spread l m) s p h = refl
not_first Buy (Spread i j) Buy (Spread k l) bside b s p h = refl
not_first Buy (Spread i j) Sell (Spread k l) bside b s p h = refl
not_first Sell (Spread i j) Buy (Spread k l) bside b s p h = refl
not_first Sell (Spread i j) Sell (Spread k l) bside b s p h = refl

pub some_no : (r : Option Candidate) → is_some r ≡ false → r ≡ None
some_no None h = refl
some_no (Some o) h = let no : true ≡ false = h in cc

module _ (on : Pairs) where
  off_none : (t : Bool) (price : Option ℤ) → price ≡ None → offered_if t price ≡ None
  off_none true price h = h
  off_none false price h = refl

  -- an order that may not be the first of two makes no pair
  pub no_pair : (n a b : Order) → may_be_first n.side n.instrument a.side a.instrument ≡ false
      → candidate_of on n (Implied a b) ≡ None
  no_pair n a b h = ap (candidate_at n (Implied a b))
      (price_switched on n a b ∙ off_none (takes_part on n.instrument a.instrument)
      (implied_price n.side n.instrument a.side a.instrument b.side b.instrument a.price b.price)
      (not_first n.side n.instrument a.side a.instrument b.side b.instrument a.price b.price h))

  none_at : (n a b : Order) (t : Bool) → takes_part on n.instrument a.instrument ≡ t
      → candidate_of all_on n (Implied a b) ≡ None → candidate_of on n (Implied a b) ≡ None
  none_at n a b true t h = candidate_on on n a b t ∙ h
  none_at n a b false t h = candidate_off on n a b t

  -- who makes no candidate where all pairs are on makes none
  pub none_on : (n a b : Order) → candidate_of all_on n (Implied a b) ≡ None → candidate_of on n (Implied a b) ≡ None
  none_on n a b h = none_at n a b (takes_part on n.instrument a.instrument) refl h

  stays : (n : Order) (best : Option Candidate) → better_of n best None ≡ best
  stays n None = refl
  stays n (Some o) = refl

  pub step_none : (n : Order) (bound best : Option Candidate) (p : Counterparty) → candidate_of on n p ≡ None
      → next_step on n bound best p ≡ best
  step_none n bound best p h = ap (λ (r : Option Candidate). better_of n best (only_behind n bound r)) h ∙ stays n best

  pub pairs_none : (n : Order) (bound best : Option Candidate) (a : Order) (xs : List Order)
      → may_be_first n.side n.instrument a.side a.instrument ≡ false
      → fold (next_step on n bound) best (map (Implied a) xs) ≡ best
  pairs_none n bound best a [] h = refl
  pairs_none n bound best a (b ∷ xs) h =
      ap (λ (r : Option Candidate). fold (next_step on n bound) r (map (Implied a) xs))
      (step_none n bound best (Implied a b) (no_pair n a b h))
      ∙ pairs_none n bound best a xs h
