-- the least rank of a queue is that of its front
use Rattle.std.proofs.Common.{◌≡◌, ℕ, ℤ, false, List, [], Contains, Some, None, refl, sym, ap, ◌∙◌, subst, arith}
use Rattle.std.specs.Ordering.{is_lt}
use Rattle.std.proofs.lemmas.Int.{ints}
use Rattle.spread_rules.specs.declared.order.Side.{Side}
use Rattle.spread_rules.specs.declared.order.Side.TheVariants.{Buy, Sell}
use Rattle.spread_rules_rulebook.specs.declared.instrument.Instrument.{Instrument}
use Rattle.spread_rules_rulebook.proofs.lists.Membership.{not_in_nil}
use Rattle.spread_rules.specs.declared.order.Order.{Order}
use Rattle.spread_rules.specs.code.Quiet.{Rests}
use Rattle.spread_books_queues.specs.FrontTable.{best_price_of}
use Rattle.spread_books_queues.specs.declared.front_table.BestPrice.{BestPrice}
use Rattle.spread_books_queues.specs.declared.queue_rank.QueueRank.{QueueRank}
use Rattle.spread_books_queues.specs.QueueRanks.{queue_number, queue_of, queue_cost, rank_of, rank_cmp, HasMonths}
use Rattle.spread_books_queues.specs.code.Heaps.{ranks_at, IsLeast}
use Rattle.spread_books_plain.specs.Queues.{IsFront}
use Rattle.spread_books_heap.specs.code.Index.{IsIndex}
use Rattle.spread_books_heap.proofs.ranks.TotalOrder.{one_rank, queue_is, same_queue_cmp}

-- the cost of a cost is the price
cost_back : (side : Side) (p : ℤ) → queue_cost side (queue_cost side p) ≡ p
cost_back Sell p = refl
cost_back Buy p = omega (arith, ints)

abbrev best_of : ℤ → ℕ → BestPrice
best_of price place = record { price = price; place = place }

-- where the order of a rank stands, by the rank
pub rank_price : (k : QueueRank) (o : Order) (side : Side) (best : BestPrice) → rank_of o ≡ k → o.side ≡ side
    → best.price ≡ queue_cost side k.cost → best.place ≡ k.place → best ≡ best_price_of o
rank_price k o side best of at price place =
    let cost : k.cost ≡ queue_cost side o.price = ap (λ (x : QueueRank). x.cost) (sym of)
    ∙ ap (λ (s : Side). queue_cost s o.price) at in
    let p : best.price ≡ o.price = price ∙ (ap (queue_cost side) cost ∙ cost_back side o.price) in
    let q : best.place ≡ o.place = place ∙ ap (λ (x : QueueRank). x.place) (sym of) in
    let same : best_of best.price best.place ≡ best_of o.price o.place = cc in
    same

module _ (xs : List Order) (ranks : List (List QueueRank)) (index : IsIndex xs ranks) (instrument : Instrument)
    (side : Side) where
  number_of : (o : Order) → Rests xs instrument side o → queue_of o ≡ queue_number instrument side
  number_of o r = ap (λ (x : Instrument). queue_number x o.side) r.instrument_is
      ∙ ap (λ (s : Side). queue_number instrument s) r.side_is

  ranked_here : (o : Order) → Contains xs o → queue_of o ≡ queue_number instrument side
      → Contains (ranks_at ranks (queue_number instrument side)) (rank_of o)
  ranked_here o c e = subst (λ (n : ℕ). Contains (ranks_at ranks n) (rank_of o)) e (index.ranked o c)

  pub no_rank : ranks_at ranks (queue_number instrument side) ≡ [] → IsFront xs instrument side None
  no_rank none o r = not_in_nil (rank_of o) (subst (λ (rs : List QueueRank). Contains rs (rank_of o)) none
      (ranked_here o r.stands (number_of o r)))

  pub front_of_rank : HasMonths instrument → (k : QueueRank) → IsLeast (ranks_at ranks (queue_number instrument side)) k
      → (o : Order) × (rank_of o ≡ k) × IsFront xs instrument side (Some o)
  front_of_rank months k least =
      let w = index.led (queue_number instrument side) k least.0 in
      let o = w.0 in
      let own = least.1 (rank_of o) (ranked_here o w.1 w.2) in
      let same = one_rank (rank_of o) k own w.3 in
      let at = queue_is o.instrument instrument o.side side (index.months o w.1) months w.2 in (
        o,
        same,
        (
          record { stands = w.1; instrument_is = at.0; side_is = at.1 },
          λ p r.
              let le = least.1 (rank_of p) (ranked_here p r.stands (number_of p r)) in
              let lt : is_lt (rank_cmp (rank_of p) (rank_of o)) ≡ false =
              subst (λ (x : QueueRank). is_lt (rank_cmp (rank_of p) x) ≡ false) (sym same) le in
              ap is_lt (sym (same_queue_cmp side p o r.side_is at.1)) ∙ lt,
        ),
      )
