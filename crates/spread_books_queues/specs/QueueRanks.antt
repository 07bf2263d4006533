-- Where an order stands in its queue: which queue, and how far ahead.
use Rattle.std.specs.Prelude.{ℕ, ◌+◌, ◌*◌, ◌<◌, ◌==◌, ◌&&◌, Bool, ℤ, pos, neg_ℤ, ◌-ℤ◌}
use Rattle.std.specs.declared.cmp.Ordering.{Ordering}
use Rattle.std.specs.Ordering.{nat_cmp, int_cmp, int_eq, ordering_then}
use Rattle.spread_rules.specs.declared.order.Side.{Side}
use Rattle.spread_rules.specs.declared.order.Side.TheVariants.{Buy, Sell}
use Rattle.spread_rules_rulebook.specs.declared.instrument.Instrument.{Instrument}
use Rattle.spread_rules_rulebook.specs.declared.instrument.Instrument.TheVariants.{Outright, Spread}
use Rattle.spread_rules.specs.declared.order.Order.{Order}
use Rattle.spread_books_queues.specs.declared.queue_rank.QueueRank.{QueueRank}

-- a queue's number is even for buyers and odd for sellers
abbrev pub side_index : Side → ℕ
side_index Buy = 0
side_index Sell = 1

-- one number for each instrument and side
abbrev pub queue_number : Instrument → Side → ℕ
queue_number (Outright m) side = m * 2 + side_index side
queue_number (Spread i j) side = ((i + 1) * 256 + j) * 2 + side_index side

-- the number of an order's queue
abbrev pub queue_of : Order → ℕ
queue_of o = queue_number o.instrument o.side

-- what is worse for who meets it is greater, and every price has one
abbrev pub queue_cost : Side → ℤ → ℤ
queue_cost Sell price = price
queue_cost Buy price = neg_ℤ (pos 1) -ℤ price

abbrev pub rank_of : Order → QueueRank
rank_of o = record { cost = queue_cost o.side o.price; place = o.place }

abbrev pub is_rank : QueueRank → QueueRank → Bool
is_rank a b = int_eq a.cost b.cost && a.place == b.place

-- by cost, then by place
abbrev pub rank_cmp : QueueRank → QueueRank → Ordering
rank_cmp a b = ordering_then (int_cmp a.cost b.cost) (nat_cmp a.place b.place)

-- months as they are kept
abbrev pub HasMonths : Instrument → Type 0
HasMonths (Outright m) = m < 256
HasMonths (Spread i j) = (i < 256) × (j < 256)
