-- What holds of the book and the fills between the turns of a new order.
-- Words of the code alone.
use Rattle.std.specs.Prelude.{◌≡◌, ◌≢◌, ℕ, ◌<◌, ◌≤◌, ℤ, List, [], ◌∷◌, ◌++◌, All}
use Rattle.spread_rules.specs.declared.order.Order.{Order}
use Rattle.spread_rules.specs.declared.fill.Fill.{Fill}
use Rattle.spread_rules.specs.declared.candidate.Counterparty.{Counterparty}
use Rattle.spread_rules.specs.declared.candidate.Counterparty.TheVariants.{Direct, Implied}
use Rattle.spread_rules.specs.Candidates.{Pairs}
use Rattle.spread_rules.specs.code.Clearing.{turns, begin}

-- at least so much is left of each order
abbrev pub HaveLeft : ℕ → Counterparty → Type 0
HaveLeft by (Direct o) = by ≤ o.leaves
HaveLeft by (Implied a b) = (by ≤ a.leaves) × (by ≤ b.leaves)

-- two orders, not one
abbrev pub AreApart : Counterparty → Type 0
AreApart (Direct o) = Unit {0}
AreApart (Implied a b) = a.place ≢ b.place

-- the book and the fills are as some number of turns leaves them; own is the new order as it was added
pub record IsAfter
    (on : Pairs) (references : List ℤ) (own : Order) (rest : List Order)
    (left : Order) (orders : List Order) (fills : List Fill) : Type 0 where
  pub count : ℕ
  pub left_is : left ≡ (turns on references count (begin own rest)).new
  pub orders_is :
      orders ≡ (turns on references count (begin own rest)).orders ++ own ∷ []
  pub fills_is : fills ≡ (turns on references count (begin own rest)).fills

-- a list that ends with this order, the only one of its place
pub record IsNewest (own : Order) (xs : List Order) : Type 0 where
  pub rest : List Order
  pub ends : xs ≡ rest ++ own ∷ []
  pub below : All (λ o. o.place < own.place) rest
