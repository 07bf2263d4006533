use Rattle.apply_desk.proofs.OneByOne.{orders_are, fills_are}
use Rattle.apply_desk.proofs.laws.one_by_one.Goals as goal

pub returns : goal.returns
returns c = record { orders = orders_are; fills = fills_are }
