-- An order that keeps its place under another id and with another quantity.
use Rattle.std.specs.Prelude.{ℕ, ◌-◌, ◌==◌, if◌then◌else◌, List, map}
use Rattle.spread_rules.specs.declared.order.Order.{Order}

-- so much of an order is filled
abbrev pub done : Order → ℕ
done o = o.quantity - o.leaves

-- an order under a new id and with a new quantity, what is filled included
abbrev pub with_quantity : List ℕ → ℕ → Order → Order
with_quantity id quantity o = record o { id = id; quantity = quantity; leaves = quantity - done o }

-- the order of that place is changed so
abbrev pub with_changed : ℕ → (Order → Order) → List Order → List Order
with_changed place change xs = map (λ o. if o.place == place then change o else o) xs
