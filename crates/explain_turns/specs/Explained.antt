-- What is told of a new order's turns: whom it traded with, and who ranked next.
use Rattle.std.specs.Prelude.{◌≡◌, ◌≢◌, ℕ, ◌<◌, ◌/◌, ℤ, ◌-ℤ◌, neg_ℤ, unsigned_abs, Bool, true, false, List, [], ◌∷◌, length, get_or, Option, Some, None, MatchOption, IfSome, All}
use Rattle.spread_rules_ids.specs.declared.limits.TheConstants as limits
use Rattle.spread_rules.specs.declared.order.Order.{Order}
use Rattle.spread_rules.specs.declared.order.Side.{Side}
use Rattle.spread_rules.specs.declared.order.Side.TheVariants.{Buy, Sell}
use Rattle.spread_rules.specs.declared.candidate.Candidate.{Candidate}
use Rattle.spread_rules.specs.declared.candidate.Rank.{Rank}
use Rattle.spread_rules.specs.Candidates.{Pairs, IsBest, IsEligible, IsLeast, is_before, least_left}
use Rattle.spread_rules.specs.code.Candidates.{HasLegPrice}
use Rattle.spread_rules.specs.Clearing.{Trading, clear, leg_prices}
use Rattle.spread_rules.specs.code.Clearing.{begin, next_candidate, turns}
use Rattle.spread_rules_rulebook.specs.Rulebook.{Rules, implied, references_of}
use Rattle.explain_turns.specs.declared.turn.ExplainedTurn.{ExplainedTurn}
use Rattle.explain_turns.specs.declared.turn.Beyond.{Beyond}
use Rattle.explain_turns.specs.declared.point.RankPoint.{RankPoint}
use Rattle.explain_turns.specs.declared.point.RankPoint.TheVariants.{Price, DirectFirst, OtherMonth, FirstMember, SecondMember}

-- whether a candidate ranks behind the bound; without a bound each does
abbrev pub is_behind : Order → Option Candidate → Candidate → Bool
is_behind n None o = true
is_behind n (Some bound) o = is_before n bound o

-- an eligible candidate behind the bound, and no eligible one behind the bound ranks before it
pub record IsNext
    (on : Pairs) (n : Order) (xs : List Order) (bound : Option Candidate) (o : Candidate) : Type 0 where
  pub eligible : IsEligible on n xs o
  pub behind : is_behind n bound o ≡ true
  pub least :
      (q : Candidate) → IsEligible on n xs q → is_behind n bound q ≡ true
      → is_before n q o ≡ false

-- the next in rank behind the bound, and none only where no eligible candidate lies behind it
abbrev pub IsNextBest :
    Pairs → Order → List Order → Option Candidate → Option Candidate → Type 0
IsNextBest on n xs bound next =
    MatchOption next
    ((q : Candidate) → IsEligible on n xs q → is_behind n bound q ≡ true → ⊥)
    (IsNext on n xs bound)

-- the next behind a candidate, and none behind none
abbrev pub Follows : Pairs → Order → List Order → Option Candidate → Option Candidate → Type 0
Follows on n xs None next = next ≡ None
Follows on n xs (Some o) next = IsNextBest on n xs (Some o) next

-- each is the next behind the one before it, the first behind the bound
abbrev pub AreNext :
    Pairs → Order → List Order → Option Candidate → List (Option Candidate) → Type 0
AreNext on n xs bound [] = Unit {0}
AreNext on n xs bound (o ∷ os) =
    Follows on n xs bound o × AreNext on n xs o os

-- ---- turns

-- What is told of the turn that follows a state: what was left of the new order, the candidate taken, which is the least
-- in rank, how many lots traded, the legs of the spread that takes part, and those that rank next.
pub record IsTurn (rules : Rules) (s : Trading) (t : ExplainedTurn) : Type 0 where
  pub left : t.left ≡ s.new.leaves
  pub taken : next_candidate (implied rules) s ≡ Some t.taken
  pub least : IsLeast (implied rules) s.new s.orders t.taken
  pub quantity : t.quantity ≡ least_left s.new t.taken.counterparty
  pub legs :
      t.legs
      ≡ leg_prices (references_of rules) s.new.instrument t.taken.price t.taken.counterparty
  pub next : AreNext (implied rules) s.new s.orders (Some t.taken) t.next

-- the prices of all candidates that are told of are prices of legs
pub record HaveLegPrices (t : ExplainedTurn) : Type 0 where
  pub taken : HasLegPrice t.taken
  pub next : All (λ o. IfSome o HasLegPrice) t.next

-- so many turns of a new order against these
abbrev pub after_turns : Rules → Order → List Order → ℕ → Trading
after_turns rules n xs k = turns (implied rules) (references_of rules) k (begin n xs)

-- all turns of a new order against these
abbrev pub after_all_turns : Rules → Order → List Order → Trading
after_all_turns rules n xs = clear (implied rules) (references_of rules) n xs

-- the turns of a new order against these, one after another, until there is no next candidate
pub record AreTurns (rules : Rules) (n : Order) (xs : List Order) (ts : List ExplainedTurn) : Type 0 where
  pub each :
      (k : ℕ) (d : ExplainedTurn) → k < length ts → IsTurn rules (after_turns rules n xs k) (get_or ts k d)
  pub last : next_candidate (implied rules) (after_turns rules n xs (length ts)) ≡ None
  pub cleared :
      after_turns rules n xs (length ts) ≡ after_all_turns rules n xs

-- ---- what lies beyond the limit

-- the widest price of a leg, for who trades on that side
abbrev pub widest : Side → ℤ
widest Buy = limits.MAX_LEG_PRICE
widest Sell = neg_ℤ limits.MAX_LEG_PRICE

-- the order at a limit that no price of a candidate lies beyond
abbrev pub without_limit : Order → Order
without_limit n = record n { price = widest n.side }

-- so many ticks lie between two prices
abbrev pub ticks_between : Rules → ℤ → ℤ → ℕ
ticks_between rules p q = unsigned_abs (p -ℤ q) / unsigned_abs rules.tick

-- Where nothing is left, nothing; else the best candidate whatever the limit, and how far from the limit its price lies.
-- None only where nothing meets the order at any price.
abbrev pub IsBeyond : Rules → Order → List Order → Option Beyond → Type 0
IsBeyond rules n xs None = 0 < n.leaves → IsBest (implied rules) (without_limit n) xs None
IsBeyond rules n xs (Some b) =
    (0 < n.leaves)
    × IsBest (implied rules) (without_limit n) xs (Some b.candidate)
    × (b.ticks ≡ ticks_between rules b.candidate.price n.price)

-- what lies beyond the limit of a new order that had all its turns against these
abbrev pub LiesBeyond : Rules → Order → List Order → Option Beyond → Type 0
LiesBeyond rules n xs beyond =
    IsBeyond rules (after_all_turns rules n xs).new (after_all_turns rules n xs).orders beyond

-- ---- why a candidate ranks behind another

-- the first point in which two ranks differ, and the last one where they differ in none before it
abbrev pub IsPoint : Rank → Rank → RankPoint → Type 0
IsPoint a b Price = a.cost ≢ b.cost
IsPoint a b DirectFirst = (a.cost ≡ b.cost) × (a.implied ≢ b.implied)
IsPoint a b OtherMonth = (a.cost ≡ b.cost) × (a.implied ≡ b.implied) × (a.month ≢ b.month)
IsPoint a b FirstMember =
    (a.cost ≡ b.cost) × (a.implied ≡ b.implied) × (a.month ≡ b.month) × (a.first ≢ b.first)
IsPoint a b SecondMember =
    (a.cost ≡ b.cost) × (a.implied ≡ b.implied) × (a.month ≡ b.month) × (a.first ≡ b.first)
