use Rattle.std.proofs.Common.{rules, arith}
use Rattle.text_fills.proofs.MonthSums.{added_buy, added_sell, money_fits, sum_fits, lots_fit}
use Rattle.text_fills.proofs.totals.MonthTotals.add.Goals as goal

pub returns-in-Buy : goal.returns-in-Buy
returns-in-Buy c =
    added_buy c.args.side c.args.quantity c.from-in-Buy.result c.args.price c.from.result c.from-2.result
    c.args.self.now c.in-Buy.is (search rules) (search rules) (search rules)
    c.requires.quantity c.requires.price.low c.requires.price.high c.requires.room

pub returns-in-Sell : goal.returns-in-Sell
returns-in-Sell c =
    added_sell c.args.side c.args.quantity c.from-in-Sell.result c.args.price c.from.result c.from-2.result
    c.args.self.now c.in-Sell.is (search rules) (search rules) (search rules)
    c.requires.quantity c.requires.price.low c.requires.price.high c.requires.room

pub overflow_mul-money : goal.overflow_mul-money
overflow_mul-money c = money_fits c.args.quantity c.args.price c.from.result c.from-2.result (search rules)
    (search rules) c.requires.quantity c.requires.price.low c.requires.price.high

pub overflow_add-self : goal.overflow_add-self
overflow_add-self c = omega (
  arith,
  lots_fit c.args.self.now.bought c.from-in-Buy.result c.args.quantity (search rules)
      c.requires.quantity c.requires.room.bought,
)

pub overflow_add-self-in-Buy : goal.overflow_add-self-in-Buy
overflow_add-self-in-Buy c =
    sum_fits c.args.quantity c.args.price c.from.result c.from-2.result c.args.self.now.paid (search rules)
    (search rules)
    c.requires.quantity c.requires.price.low c.requires.price.high c.requires.room.paid_low c.requires.room.paid_high

pub overflow_add-self-in-Sell : goal.overflow_add-self-in-Sell
overflow_add-self-in-Sell c = omega (
  arith,
  lots_fit c.args.self.now.sold c.from-in-Sell.result c.args.quantity
      (search rules) c.requires.quantity c.requires.room.sold,
)

pub overflow_add-self-in-Sell-2 : goal.overflow_add-self-in-Sell-2
overflow_add-self-in-Sell-2 c =
    sum_fits c.args.quantity c.args.price c.from.result c.from-2.result c.args.self.now.received (search rules)
    (search rules)
    c.requires.quantity c.requires.price.low c.requires.price.high c.requires.room.received_low
    c.requires.room.received_high
