-- Words of the code alone, beside `Amended`: no promise of a whole day needs them to be read.
use Rattle.std.specs.Prelude.{ℕ, ◌-◌, ◌==◌, if◌then◌else◌, List}
use Rattle.spread_rules.specs.declared.order.Order.{Order}
use Rattle.spread_rules.specs.Amended.{with_changed, with_quantity}

-- the order of that place is amended: `with_changed` by `with_quantity`
abbrev pub amended : ℕ → List ℕ → ℕ → List Order → List Order
amended place id quantity xs = with_changed place (with_quantity id quantity) xs
