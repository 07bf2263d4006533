use Rattle.std.proofs.Common.{rules}
use Rattle.spread_rules.proofs.legs.leg_prices.Goals as goal

pub returns-in-Outright-Direct : goal.returns-in-Outright-Direct
returns-in-Outright-Direct c = rw (c.in-Outright-Direct.is-0, c.in-Outright-Direct.is-1) (search rules)

pub returns-in-Spread-Implied : goal.returns-in-Spread-Implied
returns-in-Spread-Implied c = rw (c.in-Spread-Implied.is-0, c.in-Spread-Implied.is-1) (search rules)

pub returns-then-month-far_month : goal.returns-then-month-far_month
returns-then-month-far_month c = rw (c.in-Outright-Implied.is-0, c.in-Outright-Implied.is-1) (search rules)

pub returns-else-month-far_month : goal.returns-else-month-far_month
returns-else-month-far_month c = rw (c.in-Outright-Implied.is-0, c.in-Outright-Implied.is-1) (search rules)
