-- What holds of the tables of a book: its orders in order of place, which it is seen as, and their ranks by queue.
-- Words of the code alone.
use Rattle.std.specs.Prelude.{ℕ, List, Contains}
use Rattle.spread_rules.specs.declared.order.Order.{Order}
use Rattle.spread_books_rows.specs.Places.{Ascends}
use Rattle.spread_books_queues.specs.declared.queue_rank.QueueRank.{QueueRank}
use Rattle.spread_books_queues.specs.QueueRanks.{queue_of, rank_of, HasMonths}
use Rattle.spread_books_queues.specs.code.Heaps.{ranks_at, IsLed}

-- each order has its rank in its queue; a rank may be left of an order that left, behind one of an order that rests
pub record IsIndex (xs : List Order) (ranks : List (List QueueRank)) : Type 0 where
  pub ordered : Ascends xs
  pub ranked : (o : Order) → Contains xs o → Contains (ranks_at ranks (queue_of o)) (rank_of o)
  pub led : (queue : ℕ) (r : QueueRank) → Contains (ranks_at ranks queue) r → IsLed xs queue r
  pub months : (o : Order) → Contains xs o → HasMonths o.instrument
