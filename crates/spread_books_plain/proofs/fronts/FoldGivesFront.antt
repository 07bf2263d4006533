-- the fold over a list gives the front of a queue
use Rattle.std.proofs.Common.{◌≡◌, List, refl, subst, Option, Some, None, Bool, true, false, cond, fold, arith, inl, inr, ◌⊎◌}
use Rattle.std.proofs.lemmas.Bool.{and_parts}
use Rattle.std.proofs.lemmas.Bool.Decides.{nat_tests}
use Rattle.std.specs.Cmp.{IsTotalOrder, IsStrictWeakOrder}
use Rattle.std.proofs.lemmas.Cmp.{then_total, on_total, int_cmp_total, nat_cmp_total}
use Rattle.std.proofs.lemmas.List.MinMax.{ranks_by}
use Rattle.spread_rules.specs.declared.order.Side.{Side}
use Rattle.spread_rules.specs.declared.order.Side.TheVariants.{Buy, Sell}
use Rattle.spread_rules_rulebook.specs.declared.instrument.Instrument.{Instrument}
use Rattle.spread_rules_rulebook.specs.declared.instrument.Instrument.TheVariants.{Outright, Spread}
use Rattle.spread_rules.specs.declared.order.Order.{Order}
use Rattle.spread_rules.specs.Candidates.{same_instrument, cost}
use Rattle.spread_rules.specs.code.Quiet.{Rests}
use Rattle.spread_rules.proofs.ranks.FirstOfAFold.{IsFirst, fold_first}
use Rattle.spread_books_plain.specs.Queues.{is_in, is_ahead, queue_cmp, IsFront, front_step}
use Rattle.spread_rules.specs.Legs.{is_side, other_side}
use Rattle.spread_rules.proofs.clearings.BoughtIsSold.{same_instrument_is}
use Rattle.spread_books_rows.proofs.places.Ascending.{is_so}

pub queue_total : (side : Side) → IsTotalOrder (queue_cmp side)
queue_total side = then_total (on_total (λ (o : Order). cost (other_side side) o.price) int_cmp_total)
    (on_total (λ (o : Order). o.place) nat_cmp_total)

pub queues : (side : Side) → IsStrictWeakOrder (is_ahead side)
queues side = ranks_by (queue_total side) (λ (o : Order). o)

pub same_instrument_itself : (a : Instrument) → same_instrument a a ≡ true
same_instrument_itself (Outright m) = grind (arith, nat_tests)
same_instrument_itself (Spread i j) = grind (arith, nat_tests)

pub same_side_is : (a b : Side) → is_side a b ≡ true → a ≡ b
same_side_is Buy Buy h = refl
same_side_is Sell Sell h = refl
same_side_is Buy Sell h = cc
same_side_is Sell Buy h = cc

pub same_side_itself : (a : Side) → is_side a a ≡ true
same_side_itself Buy = refl
same_side_itself Sell = refl

pub same_queue : (i j : Instrument) (s t : Side) → ((i ≡ j) × (s ≡ t)) ⊎ ((i ≡ j) × (s ≡ t) → ⊥)
same_queue i j s t =
    elim (is_so (same_instrument i j)) [
      | inl a ↦ elim (is_so (is_side s t)) [
        | inl b ↦ inl (same_instrument_is i j a, same_side_is s t b)
        | inr b ↦ inr (λ e. let k : is_side s t ≡ true = subst (λ (u : Side). is_side s u ≡ true) e.1
            (same_side_itself s) in cc)
      ]
      | inr a ↦ inr (λ e. let k : same_instrument i j ≡ true =
          subst (λ (u : Instrument). same_instrument i u ≡ true) e.0 (same_instrument_itself i) in cc)
    ]

pub in_queue : (xs : List Order) (instrument : Instrument) (side : Side) (o : Order) → Rests xs instrument side o
    → is_in instrument side o ≡ true
in_queue xs instrument side o r = rw (r.instrument_is, r.side_is, same_instrument_itself instrument)
    (same_side_itself side)

pub from_queue : (instrument : Instrument) (side : Side) (o : Order) → is_in instrument side o ≡ true
    → (o.instrument ≡ instrument) × (o.side ≡ side)
from_queue instrument side o h =
    let b = and_parts (same_instrument o.instrument instrument) (is_side o.side side) h in
    (same_instrument_is o.instrument instrument b.0, same_side_is o.side side b.1)

-- what an order gives to the queue
given : (instrument : Instrument) (side : Side) (p o : Order) (b : Bool) → is_in instrument side p ≡ b
    → cond b (Some p) None ≡ Some o → (is_in instrument side p ≡ true) × (p ≡ o)
given instrument side p o true h e = (h, cc)
given instrument side p o false h e = cc

gives : (instrument : Instrument) (side : Side) (o : Order) → is_in instrument side o ≡ true
    → cond (is_in instrument side o) (Some o) None ≡ Some o
gives instrument side o h = rw h refl

front_from : (xs : List Order) (instrument : Instrument) (side : Side) (r : Option Order)
    → IsFirst (is_ahead side) (queues side) (λ (o : Order). cond (is_in instrument side o) (Some o) None) xs r
    → IsFront xs instrument side r
front_from xs instrument side None h = λ o r. let none = h o r.stands in let some =
    gives instrument side o (in_queue xs instrument side o r) in cc
front_from xs instrument side (Some o) h =
    let g = given instrument side h.0.0 o (is_in instrument side h.0.0) refl h.0.2 in
    let q = from_queue instrument side h.0.0 g.0 in (
      subst (Rests xs instrument side) g.1 (record { stands = h.0.1; instrument_is = q.0; side_is = q.1 }),
      λ p r. h.1 p p r.stands (gives instrument side p (in_queue xs instrument side p r)),
    )

pub fold_front : (xs : List Order) (instrument : Instrument) (side : Side)
    → IsFront xs instrument side (fold (front_step instrument side) None xs)
fold_front xs instrument side = front_from xs instrument side (fold (front_step instrument side) None xs)
    (fold_first (is_ahead side) (queues side) (λ (o : Order). cond (is_in instrument side o) (Some o) None) xs)
