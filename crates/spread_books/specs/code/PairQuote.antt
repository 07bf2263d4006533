-- What the fronts of two queues together offer.
-- Words of the code alone.
use Rattle.std.specs.Prelude.{◌≡◌, ℤ, min, List, Option, Some, MatchOption}
use Rattle.spread_rules.specs.declared.order.Side.{Side}
use Rattle.spread_rules_rulebook.specs.declared.instrument.Instrument.{Instrument}
use Rattle.spread_rules.specs.declared.order.Order.{Order}
use Rattle.spread_rules.specs.declared.candidate.Choice.{Choice}
use Rattle.spread_rules.specs.declared.candidate.Counterparty.TheVariants.{Implied}
use Rattle.spread_rules.specs.Candidates.{Pairs, price_of, members_of}
use Rattle.spread_rules.specs.code.Quiet.{Rests}
use Rattle.spread_books_plain.specs.Queues.{IsFront}

-- the fronts meet the order at the quote's price
pub record AreFrontsOf
    (on : Pairs) (n : Order) (xs : List Order) (first : Instrument) (first_side : Side)
    (second : Instrument) (second_side : Side) (quote : Choice) : Type 0 where
  pub a : Order
  pub b : Order
  pub front : IsFront xs first first_side (Some a)
  pub other : IsFront xs second second_side (Some b)
  pub meet : price_of on n (Implied a b) ≡ Some quote.price
  pub quantity : quote.quantity ≡ min a.leaves b.leaves
  pub members : quote.members ≡ members_of (Implied a b)

-- none only where no two orders of the queues meet an order of that instrument and side
abbrev pub IsQuoteOfFronts :
    Pairs → List Order → Instrument → Side → Instrument → Side → Instrument → Side
    → Option Choice → Type 0
IsQuoteOfFronts on xs instrument side first first_side second second_side quote =
    (n : Order) → n.instrument ≡ instrument → n.side ≡ side
    → MatchOption quote
    ((a b : Order) (price : ℤ) → Rests xs first first_side a → Rests xs second second_side b
    → price_of on n (Implied a b) ≡ Some price → ⊥)
    (AreFrontsOf on n xs first first_side second second_side)
