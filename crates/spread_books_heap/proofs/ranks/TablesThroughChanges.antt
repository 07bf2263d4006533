-- the tables of a book through its changes
use Rattle.std.proofs.Common.{◌≡◌, ℕ, ◌<◌, ◌==◌, true, false, List, [], ◌∷◌, ◌++◌, Contains, All, Result, Ok, Err, OnOk, OnErr, refl, sym, ap, ◌∙◌, subst, inl, inr, arith}
use Rattle.std.specs.Result.{is_err}
use Rattle.std.specs.Ordering.{is_lt}
use Rattle.std.specs.List.Sorted.{IsStrictlySortedBy}
use Rattle.std.proofs.lemmas.Bool.Decides.{nat_tests}
use Rattle.std.proofs.lemmas.Cmp.{tied_itself}
use Rattle.std.proofs.lemmas.List.Elements.{Contains-append_left, Contains-push, Contains-push_cases}
use Rattle.spread_rules_rulebook.specs.declared.instrument.Instrument.{Instrument}
use Rattle.spread_rules.specs.declared.order.Order.{Order}
use Rattle.spread_rules.specs.Clearing.{reduced, removed}
use Rattle.spread_rules_rulebook.proofs.lists.Membership.{not_in_nil, in_map, from_map}
use Rattle.spread_rules.specs.Amended.{with_quantity}
use Rattle.spread_rules.specs.code.Amended.{amended}
use Rattle.spread_books_queues.specs.declared.queue_rank.QueueRank.{QueueRank}
use Rattle.spread_books_queues.specs.QueueRanks.{queue_of, rank_of, rank_cmp, HasMonths}
use Rattle.spread_books_queues.specs.code.Heaps.{ranks_at, Joins, SameRanks, IsLed, KeepsRanks, HasSettled, HasThinned, ChangesQueue, Settles, Thins}
use Rattle.spread_books_rows.proofs.places.Ascending.{ascends_changed, is_so, one_at_a_place, from_removed, in_removed}
use Rattle.spread_books_rows.proofs.places.ChangedAt.{changed, changed_at, less, key_kept}
use Rattle.spread_books_heap.specs.code.Index.{IsIndex}
use Rattle.spread_books_heap.proofs.ranks.TotalOrder.{rank_total}
use Rattle.spread_books_plain.proofs.places.LastOrder.{ascends_removed, ascends_added}

-- ---- no order

pub empty_index : (xs : List Order) (ranks : List (List QueueRank)) → xs ≡ [] → ranks ≡ [] → IsIndex xs ranks
unfolding IsStrictlySortedBy
empty_index xs ranks e f = subst (λ (ys : List Order). IsIndex ys ranks) (sym e)
    (subst (λ (rs : List (List QueueRank)). IsIndex [] rs) (sym f) (record {
      ordered = tt;
      ranked = λ o c. absurd (not_in_nil o c);
      led = λ queue r c. absurd (not_in_nil r c);
      months = λ o c. absurd (not_in_nil o c);
    }))

-- ---- the same ranks

pub index_same : (xs : List Order) (old new : List (List QueueRank)) → IsIndex xs old → SameRanks old new
    → IsIndex xs new
index_same xs old new h same = record {
  ordered = h.ordered;
  ranked = λ o c. subst (λ (rs : List QueueRank). Contains rs (rank_of o)) (sym (same (queue_of o))) (h.ranked o c);
  led = λ queue r c. h.led queue r (subst (λ (rs : List QueueRank). Contains rs r) (same queue) c);
  months = h.months;
}

-- ---- one order of all, changed in what is no part of its rank

record KeepsRank (f : Order → Order) : Type 0 where
  queue : (o : Order) → queue_of (f o) ≡ queue_of o
  rank : (o : Order) → rank_of (f o) ≡ rank_of o
  instrument : (o : Order) → (f o).instrument ≡ o.instrument
  place : (o : Order) → (f o).place ≡ o.place

module _ (f : Order → Order) (keeps : KeepsRank f) (place : ℕ) (xs : List Order) (ranks : List (List QueueRank))
    (h : IsIndex xs ranks) where
  ranked_still : (o : Order) → Contains xs o → Contains (ranks_at ranks (queue_of (changed_at f place o)))
      (rank_of (changed_at f place o))
  ranked_still o c =
      subst (λ (n : ℕ). Contains (ranks_at ranks n) (rank_of (changed_at f place o)))
      (sym (key_kept queue_of f keeps.queue place o))
      (subst (λ (r : QueueRank). Contains (ranks_at ranks (queue_of o)) r) (sym (key_kept rank_of f keeps.rank place o))
      (h.ranked o c))

  led_still : (queue : ℕ) (r : QueueRank) → Contains (ranks_at ranks queue) r → IsLed (changed f place xs) queue r
  led_still queue r c =
      let w = h.led queue r c in (
        changed_at f place w.0,
        in_map (changed_at f place) xs w.0 w.1,
        key_kept queue_of f keeps.queue place w.0 ∙ w.2,
        subst (λ (t : QueueRank). is_lt (rank_cmp r t) ≡ false) (sym (key_kept rank_of f keeps.rank place w.0)) w.3,
      )

  months_still : (o : Order) → Contains xs o → HasMonths (changed_at f place o).instrument
  months_still o c = subst (λ (i : Instrument). HasMonths i)
      (sym (key_kept (λ (p : Order). p.instrument) f keeps.instrument place o)) (h.months o c)

  index_changed : IsIndex (changed f place xs) ranks
  index_changed = record {
    ordered = ascends_changed f keeps.place place xs h.ordered;
    ranked = λ p c.
        let m = from_map (changed_at f place) xs p c in
        subst (λ (o : Order). Contains (ranks_at ranks (queue_of o)) (rank_of o)) m.2 (ranked_still m.0 m.1);
    led = led_still;
    months = λ p c.
        let m = from_map (changed_at f place) xs p c in
        subst (λ (o : Order). HasMonths o.instrument) m.2 (months_still m.0 m.1);
  }

pub index_reduced : (xs : List Order) (ranks : List (List QueueRank)) (place by : ℕ) → IsIndex xs ranks
    → IsIndex (reduced place by xs) ranks
index_reduced xs ranks place by h =
    index_changed (less by) (record { queue = λ o. refl; rank = λ o. refl; instrument = λ o. refl; place = λ o. refl })
    place xs ranks h

pub index_amended : (xs : List Order) (ranks : List (List QueueRank)) (place : ℕ) (id : List ℕ) (quantity : ℕ)
    → IsIndex xs ranks → IsIndex (amended place id quantity xs) ranks
index_amended xs ranks place id quantity h =
    index_changed (with_quantity id quantity) (record {
      queue = λ o. refl;
      rank = λ o. refl;
      instrument = λ o. refl;
      place = λ o. refl;
    }) place xs ranks h

-- ---- where the ranks of one queue changed

is_queue : (m n : ℕ) → (m == n) ≡ true → m ≡ n
is_queue m n k = grind (arith, nat_tests, k)

is_another : (m n : ℕ) → (m == n) ≡ false → m ≡ n → ⊥
is_another m n k e = grind (arith, nat_tests, k, e)

module _ (xs : List Order) (queue : ℕ) (So : List QueueRank → List QueueRank → Type 0) (old new : List (List QueueRank))
    (change : ChangesQueue queue So old new) where
  ranked_still_at : KeepsRanks xs queue (ranks_at old queue) (ranks_at new queue) → (o : Order) → Contains xs o
      → Contains (ranks_at old (queue_of o)) (rank_of o) → Contains (ranks_at new (queue_of o)) (rank_of o)
  ranked_still_at kept o c had =
      elim (is_so (queue_of o == queue)) [
        | inl k ↦
            let e = is_queue (queue_of o) queue k in
            subst (λ (n : ℕ). Contains (ranks_at new n) (rank_of o)) (sym e)
            (kept o c e (subst (λ (n : ℕ). Contains (ranks_at old n) (rank_of o)) e had))
        | inr k ↦ subst (λ (rs : List QueueRank). Contains rs (rank_of o))
            (sym (change.others (queue_of o) (is_another (queue_of o) queue k))) had
      ]

  led_still_at : ((r : QueueRank) → Contains (ranks_at new queue) r → IsLed xs queue r)
      → ((n : ℕ) (r : QueueRank) → (n ≡ queue → ⊥) → Contains (ranks_at old n) r → IsLed xs n r)
      → (n : ℕ) (r : QueueRank) → Contains (ranks_at new n) r → IsLed xs n r
  led_still_at own others n r c =
      elim (is_so (n == queue)) [
        | inl k ↦
            let e = is_queue n queue k in
            subst (λ (m : ℕ). IsLed xs m r) (sym e) (own r (subst (λ (m : ℕ). Contains (ranks_at new m) r) e c))
        | inr k ↦
            let other = is_another n queue k in
            others n r other (subst (λ (rs : List QueueRank). Contains rs r) (change.others n other) c)
      ]

-- where ranks of one queue went, and none of an order that rests
pub index_thinned : (xs : List Order) (queue : ℕ) (old new : List (List QueueRank)) → IsIndex xs old
    → Thins xs queue old new → IsIndex xs new
index_thinned xs queue old new h thinned = record {
  ordered = h.ordered;
  ranked = λ o c. ranked_still_at xs queue (HasThinned xs queue) old new thinned thinned.changed.kept o c
      (h.ranked o c);
  led = led_still_at xs queue (HasThinned xs queue) old new thinned (λ r c. h.led queue r (thinned.changed.only r c))
      (λ n r other c. h.led n r c);
  months = h.months;
}

module _ (xs : List Order) (queue : ℕ) (old new : List (List QueueRank)) (settled : Settles xs queue old new) where
  ranked_settled : (o : Order) → Contains xs o → Contains (ranks_at old (queue_of o)) (rank_of o)
      → Contains (ranks_at new (queue_of o)) (rank_of o)
  ranked_settled = ranked_still_at xs queue (HasSettled xs queue) old new settled settled.changed.kept

  led_settled : ((n : ℕ) (r : QueueRank) → (n ≡ queue → ⊥) → Contains (ranks_at old n) r → IsLed xs n r)
      → (n : ℕ) (r : QueueRank) → Contains (ranks_at new n) r → IsLed xs n r
  led_settled = led_still_at xs queue (HasSettled xs queue) old new settled settled.changed.led

-- after one order left
pub index_removed : (xs : List Order) (old new : List (List QueueRank)) (o : Order) → IsIndex xs old → Contains xs o
    → Settles (removed o.place xs) (queue_of o) old new → IsIndex (removed o.place xs) new
index_removed xs old new o h stands settled = record {
  ordered = ascends_removed o.place xs h.ordered;
  ranked = λ p c. ranked_settled (removed o.place xs) (queue_of o) old new settled p c
      (h.ranked p (from_removed o.place xs p c).0);
  led = led_settled (removed o.place xs) (queue_of o) old new settled (λ n r other c.
      let w = h.led n r c in (
        w.0,
        in_removed o.place xs w.0 w.1 (elim (is_so (w.0.place == o.place)) [
          | inl k ↦
              let at : w.0.place ≡ o.place = is_queue w.0.place o.place k in
              let one = one_at_a_place xs w.0 o h.ordered w.1 stands at in
              absurd (other (sym w.2 ∙ ap queue_of one))
          | inr k ↦ k
        ]),
        w.2,
        w.3,
      ));
  months = λ p c. h.months p (from_removed o.place xs p c).0;
}

-- after a rank came for which there was no order in the end
pub index_restored : (xs : List Order) (queue : ℕ) (rank : QueueRank) (old more new : List (List QueueRank))
    → IsIndex xs old → Joins queue rank old more → Settles xs queue more new → IsIndex xs new
index_restored xs queue rank old more new h joined settled = record {
  ordered = h.ordered;
  ranked = λ p c. ranked_settled xs queue more new settled p c (joined.kept (queue_of p) (rank_of p) (h.ranked p c));
  led = led_settled xs queue more new settled (λ n r other c.
      elim (joined.only n r c) [ inl d ↦ h.led n r d | inr d ↦ absurd (other d.0) ]);
  months = h.months;
}

-- ---- one order more

pub index_added : (xs : List Order) (old new : List (List QueueRank)) (o : Order) → IsIndex xs old
    → All (λ p. p.place < o.place) xs → HasMonths o.instrument → Joins (queue_of o) (rank_of o) old new
    → IsIndex (xs ++ o ∷ []) new
index_added xs old new o h below months joined = record {
  ordered = ascends_added xs o h.ordered below;
  ranked = λ p c.
      elim (Contains-push_cases xs o p c) [
        | inl d ↦ joined.kept (queue_of p) (rank_of p) (h.ranked p d)
        | inr e ↦ subst (λ (q : Order). Contains (ranks_at new (queue_of q)) (rank_of q)) e joined.joined
      ];
  led = λ n r c.
      elim (joined.only n r c) [
        | inl d ↦ let w = h.led n r d in (w.0, Contains-append_left xs (o ∷ []) w.0 w.1, w.2, w.3)
        | inr d ↦ (
          o,
          Contains-push xs o,
          sym d.0,
          subst (λ (q : QueueRank). is_lt (rank_cmp q (rank_of o)) ≡ false)
              (sym d.1) (ap is_lt (tied_itself rank_total (rank_of o))),
        )
      ];
  months = λ p c.
      elim (Contains-push_cases xs o p c) [
        | inl d ↦ h.months p d
        | inr e ↦
            subst (λ (q : Order). HasMonths q.instrument) e months
      ];
}

-- ---- what a call that may fail says where it did, and where it did not

pub from_ok : {X E P : Type 0} (r : Result X E) → OnOk r P → is_err r ≡ false → P
from_ok (Ok x) h e = h
from_ok (Err y) h e = cc

pub from_err : {X E P : Type 0} (r : Result X E) → OnErr r P → is_err r ≡ true → P
from_err (Ok x) h e = cc
from_err (Err y) h e = h

-- what follows both where it did and where it did not, follows
pub from_both : {X E P Q R : Type 0} (r : Result X E) → OnOk r P → OnErr r Q → (P → R) → (Q → R) → R
from_both (Ok x) p q f g = f p
from_both (Err y) p q f g = g q
