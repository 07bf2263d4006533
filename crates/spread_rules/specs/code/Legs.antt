-- Words of the code alone, beside `Legs`: no promise of a whole day needs them to be read.
use Rattle.std.specs.Prelude.{ℕ, ◌+◌, ◌==◌, ℤ, pos, ◌+ℤ◌, ◌*ℤ◌, ◌&&◌, if◌then◌else◌, List, [], ◌∷◌}
use Rattle.std.specs.List.{flat_map}
use Rattle.spread_rules.specs.declared.order.Side.{Side}
use Rattle.spread_rules.specs.declared.order.Side.TheVariants.{Buy, Sell}
use Rattle.spread_rules_rulebook.specs.declared.instrument.Instrument.{Instrument}
use Rattle.spread_rules_rulebook.specs.declared.instrument.Instrument.TheVariants.{Outright, Spread}
use Rattle.spread_rules.specs.declared.fill.Fill.{Fill}
use Rattle.spread_rules.specs.Legs.{is_side, lots, money, other_side}

-- the lots bought and sold in a month, and the money paid and received: `lots` and `money` of one side
abbrev pub bought : ℕ → List Fill → ℕ
bought month fills = lots Buy month fills

abbrev pub sold : ℕ → List Fill → ℕ
sold month fills = lots Sell month fills

abbrev pub paid : ℕ → List Fill → ℤ
paid month fills = money Buy month fills

abbrev pub received : ℕ → List Fill → ℤ
received month fills = money Sell month fills

pub record Leg : Type 0 where
  pub month : ℕ
  pub side : Side
  pub quantity : ℕ
  pub price : ℤ

-- the legs of a fill, of its parts, and those of all fills
abbrev pub legs_by : Instrument → Side → ℕ → ℤ → ℤ → ℤ → List Leg
legs_by (Outright m) side q price near far =
    record { month = m; side = side; quantity = q; price = price } ∷ []
legs_by (Spread i j) side q price near far =
    record { month = i; side = side; quantity = q; price = near }
    ∷ record { month = j; side = other_side side; quantity = q; price = far } ∷ []

abbrev pub legs_in : Fill → List Leg
legs_in f = legs_by f.instrument f.side f.quantity f.price f.near f.far

abbrev pub legs : List Fill → List Leg
legs fills = flat_map legs_in fills

-- the money of the legs of that side and month, leg by leg
abbrev pub money_of_legs : Side → ℕ → List Leg → ℤ
money_of_legs side month [] = pos 0
money_of_legs side month (l ∷ ls) =
    (if is_side side l.side && l.month == month then pos l.quantity *ℤ l.price else pos 0)
    +ℤ money_of_legs side month ls

-- their lots
abbrev pub quantities : Side → ℕ → List Leg → ℕ
quantities side month [] = 0
quantities side month (l ∷ ls) =
    (if is_side side l.side && l.month == month then l.quantity else 0)
    + quantities side month ls
