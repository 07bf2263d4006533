-- The ranks of orders by queue, among which ranks of orders that left may still stand.
-- Words of the code alone.
use Rattle.std.specs.Prelude.{◌≡◌, ◌⊎◌, ◌==◌, ◌&&◌, ℕ, Bool, false, List, [], map, Contains, get_or, option_map, unwrap_or}
use Rattle.std.specs.declared.cmp.Ordering.{Ordering}
use Rattle.std.specs.declared.cmp.Reverse.{Reverse}
use Rattle.std.specs.Ordering.{is_lt}
use Rattle.std.specs.List.{find}
use Rattle.std.specs.declared.collections.BinaryHeap.{BinaryHeap}
use Rattle.std.specs.BinaryHeap.{IsHeap, heap_items}
use Rattle.spread_rules.specs.declared.order.Order.{Order}
use Rattle.spread_books_queues.specs.declared.queue_rank.QueueRank.{QueueRank}
use Rattle.spread_books_queues.specs.QueueRanks.{queue_of, rank_of, rank_cmp, is_rank}

-- the least rank comes first
abbrev pub top_cmp : Reverse QueueRank → Reverse QueueRank → Ordering
top_cmp a b = rank_cmp b.0 a.0

module _ {Z : Type 0} where
  abbrev pub IsRankHeap : BinaryHeap (Reverse QueueRank) Z → Type 0
  IsRankHeap h = IsHeap top_cmp (heap_items h)

  abbrev pub ranks_in : BinaryHeap (Reverse QueueRank) Z → List QueueRank
  ranks_in h = map (λ r. r.0) (heap_items h)

-- those of the queue of that number
abbrev pub ranks_at : List (List QueueRank) → ℕ → List QueueRank
ranks_at heaps queue = get_or heaps queue []

-- none is less
abbrev pub IsLeast : List QueueRank → QueueRank → Type 0
IsLeast ranks r = Contains ranks r × ((q : QueueRank) → Contains ranks q → is_lt (rank_cmp q r) ≡ false)

abbrev pub SameRanks : List (List QueueRank) → List (List QueueRank) → Type 0
SameRanks old new = (queue : ℕ) → ranks_at new queue ≡ ranks_at old queue

-- one rank more
pub record Joins (queue : ℕ) (rank : QueueRank) (old new : List (List QueueRank)) : Type 0 where
  pub kept : (n : ℕ) (r : QueueRank) → Contains (ranks_at old n) r → Contains (ranks_at new n) r
  pub joined : Contains (ranks_at new queue) rank
  pub only : (n : ℕ) (r : QueueRank)
      → Contains (ranks_at new n) r → Contains (ranks_at old n) r ⊎ ((n ≡ queue) × (r ≡ rank))

-- an order of that queue and rank rests
abbrev pub IsRanked : List Order → ℕ → QueueRank → Type 0
IsRanked xs queue rank = (o : Order) × Contains xs o × (queue_of o ≡ queue) × (rank_of o ≡ rank)

abbrev pub is_of_rank : ℕ → QueueRank → Order → Bool
is_of_rank queue rank o = queue_of o == queue && is_rank (rank_of o) rank

-- whether one does: the order of the rank's place
abbrev pub is_ranked : List Order → ℕ → QueueRank → Bool
is_ranked xs queue rank =
    unwrap_or (option_map (is_of_rank queue rank) (find (λ o. o.place == rank.place) xs)) false

-- an order of that queue rests that has the rank, or stands ahead of it
abbrev pub IsLed : List Order → ℕ → QueueRank → Type 0
IsLed xs queue r =
    (o : Order) × Contains xs o × (queue_of o ≡ queue) × (is_lt (rank_cmp r (rank_of o)) ≡ false)

-- orders that rest keep their ranks in a queue
abbrev pub KeepsRanks : List Order → ℕ → List QueueRank → List QueueRank → Type 0
KeepsRanks xs queue old new =
    (o : Order) → Contains xs o → queue_of o ≡ queue → Contains old (rank_of o) → Contains new (rank_of o)

-- and each rank that stays is led by one of them
pub record HasSettled (xs : List Order) (queue : ℕ) (old new : List QueueRank) : Type 0 where
  pub kept : KeepsRanks xs queue old new
  pub led : (r : QueueRank) → Contains new r → IsLed xs queue r

-- and no rank comes
pub record HasThinned (xs : List Order) (queue : ℕ) (old new : List QueueRank) : Type 0 where
  pub kept : KeepsRanks xs queue old new
  pub only : (r : QueueRank) → Contains new r → Contains old r

-- the ranks of one queue changed so
pub record ChangesQueue (queue : ℕ) (So : List QueueRank → List QueueRank → Type 0) (old new : List (List QueueRank)) : Type 0 where
  pub others : (n : ℕ) → (n ≡ queue → ⊥) → ranks_at new n ≡ ranks_at old n
  pub changed : So (ranks_at old queue) (ranks_at new queue)

abbrev pub Settles : List Order → ℕ → List (List QueueRank) → List (List QueueRank) → Type 0
Settles xs queue = ChangesQueue queue (HasSettled xs queue)

abbrev pub Thins : List Order → ℕ → List (List QueueRank) → List (List QueueRank) → Type 0
Thins xs queue = ChangesQueue queue (HasThinned xs queue)
