-- How the least candidate is found over the fronts of queues alone: what each step keeps.
-- Words of the code alone.
use Rattle.std.specs.Prelude.{◌≡◌, ℕ, ℤ, int_lt, ◌<◌, Bool, false, List, Option, Some, None, IfSome, IsSomeAnd}
use Rattle.spread_rules.specs.declared.order.Side.{Side}
use Rattle.spread_rules_rulebook.specs.declared.instrument.Instrument.{Instrument}
use Rattle.spread_rules.specs.declared.order.Order.{Order}
use Rattle.spread_rules.specs.declared.candidate.Counterparty.TheVariants.{Direct, Implied}
use Rattle.spread_rules.specs.declared.candidate.Candidate.{Candidate}
use Rattle.spread_rules.specs.Candidates.{Pairs, cost, is_within_limit, is_before, IsEligible}
use Rattle.spread_rules.specs.code.Candidates.{HasLegPrice}
use Rattle.spread_rules_rulebook.specs.Instruments.{month_of}
use Rattle.spread_rules.specs.code.Quiet.{Rests}
use Rattle.spread_rules.specs.Legs.{other_side}
use Rattle.spread_books_plain.specs.Queues.{IsFront}

-- the best so far is an eligible candidate
abbrev pub IsFair : Pairs → Order → List Order → Option Candidate → Type 0
IsFair on n xs best = IfSome best (IsEligible on n xs)

-- the queue is empty, or its front stands beyond the order's limit
abbrev pub IsBeyond : List Order → Instrument → Side → Order → Type 0
IsBeyond xs instrument side n =
    (front : Option Order) × IsFront xs instrument side front
    × IfSome front (λ f. is_within_limit n.side n.price f.price ≡ false)

-- there is a best one, and q doesn't rank before it
abbrev pub Beats : Order → Option Candidate → Candidate → Type 0
Beats n best q = IsSomeAnd best (λ o. is_before n q o ≡ false)

-- what was beaten stays beaten
abbrev pub Keeps : Order → Option Candidate → Option Candidate → Type 0
Keeps n old new = (q : Candidate) → Beats n old q → Beats n new q

-- from one best to the next: a fair one, that keeps what was beaten, and beats these too
pub record Offers
    (on : Pairs) (n : Order) (xs : List Order) (old new : Option Candidate)
    (Covers : Option Candidate → Type 0) : Type 0 where
  pub fair : IsFair on n xs new
  pub small : IfSome new HasLegPrice
  pub keeps : Keeps n old new
  pub covers : Covers new

-- each eligible single of the queue is beaten
abbrev pub CoversOne : Pairs → Order → List Order → Instrument → Side → Option Candidate → Type 0
CoversOne on n xs instrument side best =
    (o : Order) (price : ℤ)
    → Rests xs instrument side o
    → IsEligible on n xs (record { price = price; counterparty = Direct o })
    → Beats n best (record { price = price; counterparty = Direct o })

-- one order meets the new one
abbrev pub IsDirect : Candidate → Type 0
IsDirect o = (order : Order) × (o.counterparty ≡ Direct order)

-- whether a pair at that price costs less than the best, a direct candidate, or, where there is none,
-- is within the limit
abbrev pub is_better : Order → Option Candidate → ℤ → Bool
is_better n None price = is_within_limit n.side n.price price
is_better n (Some direct) price = int_lt (cost n.side price) (cost n.side direct.price)

-- whichever pairs take part: the best is a fair direct one, and beats each eligible single
-- of the order's own instrument
pub record IsBestDirect (n : Order) (xs : List Order) (best : Option Candidate) : Type 0 where
  pub fair : (on : Pairs) → IsFair on n xs best
  pub small : IfSome best HasLegPrice
  pub direct : IfSome best IsDirect
  pub covers : (on : Pairs)
      → CoversOne on n xs n.instrument (other_side n.side) best

-- each eligible pair of the two queues is beaten
abbrev pub CoversTwo :
    Pairs → Order → List Order → Instrument → Side → Instrument → Side → Option Candidate → Type 0
CoversTwo on n xs first first_side second second_side best =
    (a b : Order) (price : ℤ)
    → Rests xs first first_side a
    → Rests xs second second_side b
    → IsEligible on n xs (record { price = price; counterparty = Implied a b })
    → Beats n best (record { price = price; counterparty = Implied a b })

-- each eligible pair with an other month below is beaten
abbrev pub CoversBelow : Pairs → Order → List Order → ℕ → Option Candidate → Type 0
CoversBelow on n xs months best =
    (a b : Order) (price : ℤ)
    → IsEligible on n xs (record { price = price; counterparty = Implied a b })
    → month_of b.instrument < months
    → Beats n best (record { price = price; counterparty = Implied a b })
