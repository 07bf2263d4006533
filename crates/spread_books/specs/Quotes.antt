-- The implied quote: what two resting orders together offer an order of one instrument and side, whatever its limit.
use Rattle.std.specs.Prelude.{◌≡◌, ℤ, min, false, List, All, Option, Some, MatchOption}
use Rattle.spread_rules_ids.specs.declared.limits.TheConstants as limits
use Rattle.spread_rules.specs.declared.order.Side.{Side}
use Rattle.spread_rules_rulebook.specs.declared.instrument.Instrument.{Instrument}
use Rattle.spread_rules.specs.declared.order.Order.{Order}
use Rattle.spread_rules.specs.declared.candidate.Candidate.{Candidate}
use Rattle.spread_rules.specs.declared.candidate.Choice.{Choice}
use Rattle.spread_rules.specs.declared.candidate.Counterparty.TheVariants.{Implied}
use Rattle.spread_rules.specs.Candidates.{Pairs, AllStandIn, price_of, is_before, members_of}
use Rattle.spread_rules.specs.code.Candidates.{HasOrderPrice}
use Rattle.spread_books_search.specs.Listed.{IsInMonths, IsNearFirst}

-- the implied candidate of two orders
abbrev pub pair_at : Order → Order → ℤ → Candidate
pair_at a b price = record { price = price; counterparty = Implied a b }

-- two orders of the list that together meet the order at that price, be it within its limit or not
pub record IsImplied
    (on : Pairs) (n : Order) (xs : List Order) (a b : Order) (price : ℤ) : Type 0 where
  pub stand : AllStandIn xs (Implied a b)
  pub meet : price_of on n (Implied a b) ≡ Some price

-- the least in rank of all implied candidates, as many lots of it as both orders have left, and their places
pub record IsLeastImplied
    (on : Pairs) (n : Order) (xs : List Order) (quote : Choice) : Type 0 where
  pub first : Order
  pub second : Order
  pub implied : IsImplied on n xs first second quote.price
  pub least :
      (a b : Order) (price : ℤ) → IsImplied on n xs a b price
      → is_before n (pair_at a b price) (pair_at first second quote.price) ≡ false
  pub quantity : quote.quantity ≡ min first.leaves second.leaves
  pub members : quote.members ≡ members_of (Implied first second)

-- the quote against every order of that instrument and side, and none only where no two orders meet one
abbrev pub IsQuote : Pairs → List Order → Instrument → Side → Option Choice → Type 0
IsQuote on xs instrument side quote =
    (n : Order) → n.instrument ≡ instrument → n.side ≡ side
    → MatchOption quote
    ((a b : Order) (price : ℤ) → IsImplied on n xs a b price → ⊥)
    (IsLeastImplied on n xs)

-- orders as a market takes them: at prices of orders, of months that a rulebook may have, spreads near month first
pub record AreQuotable (xs : List Order) : Type 0 where
  pub small : All HasOrderPrice xs
  pub listed : All IsNearFirst xs
  pub within : All (λ o. IsInMonths limits.MAX_MONTHS o.instrument) xs
