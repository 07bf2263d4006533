-- what the front of a queue costs, and which changes keep it
use Rattle.std.proofs.Common.{◌≡◌, ℕ, ◌==◌, ℤ, ◌≤ℤ◌, true, List, [], ◌∷◌, ◌++◌, Contains, Option, Some, None, fold, refl, sym, ap, ◌∙◌, subst, arith, inl, inr}
use Rattle.std.proofs.lemmas.Bool.Decides.{nat_tests}
use Rattle.std.proofs.lemmas.Int.{ints}
use Rattle.std.proofs.lemmas.List.Elements.{Contains-append_left, Contains-push_cases}
use Rattle.spread_rules.specs.declared.order.Side.{Side}
use Rattle.spread_rules_rulebook.specs.declared.instrument.Instrument.{Instrument}
use Rattle.spread_rules.specs.declared.order.Order.{Order}
use Rattle.spread_rules.specs.declared.order.Level.{Level}
use Rattle.spread_rules.specs.Candidates.{cost}
use Rattle.spread_rules.specs.code.Candidates.{all_on}
use Rattle.spread_rules.specs.Clearing.{removed}
use Rattle.spread_rules.specs.Legs.{other_side}
use Rattle.spread_rules.specs.code.Quiet.{Rests}
use Rattle.spread_books_rows.specs.Places.{Ascends}
use Rattle.spread_books_rows.proofs.places.Ascending.{one_at_a_place, is_so, from_removed, in_removed}
use Rattle.spread_books_rows.proofs.places.ChangedAt.{changed_at, changed, key_kept}
use Rattle.spread_books_plain.specs.Queues.{IsFront, IsFrontLevel, front_step}
use Rattle.spread_books_plain.proofs.fronts.FoldGivesFront.{fold_front}
use Rattle.spread_books_plain.proofs.fronts.Changes.{front_of_others, front_removed, any_front_changed, KeepsQueue, of_another}
use Rattle.spread_books_search.specs.code.Cheapest.{HasFront, CostsOfFront, KeepsCost}
use Rattle.spread_books_quotes.specs.code.QuoteTable.{is_as_good}
use Rattle.spread_books_search.proofs.fronts.BeatAnyPair.{front_best}
use Rattle.spread_books_search.proofs.fronts.Levels.{front_of_level}

-- ---- one cost

cost_of : (xs : List Order) (i : Instrument) (s : Side) (f : Option Order) → IsFront xs i s f → (c : Option ℤ)
    × CostsOfFront xs i s c
cost_of xs i s None h = (None, h)
cost_of xs i s (Some o) h = (Some (cost (other_side s) o.price), record { front = o; is = h; sum = refl })

-- every queue has a front or is empty
pub cost_there : (xs : List Order) (i : Instrument) (s : Side) → (c : Option ℤ) × CostsOfFront xs i s c
cost_there xs i s = cost_of xs i s (fold (front_step i s) None xs) (fold_front xs i s)

-- no order of a queue costs less than its front
pub no_dearer : (xs : List Order) (i : Instrument) (s : Side) (paid : ℤ) (o : Order) → HasFront xs i s paid
    → Rests xs i s o → paid ≤ℤ cost (other_side s) o.price
no_dearer xs i s paid o f r = subst (λ (p : ℤ). p ≤ℤ cost (other_side s) o.price) (sym f.sum)
    (front_best all_on xs i s f.front o f.is r).0

-- ---- another queue

pub others_when_it_comes : (xs : List Order) (o : Order) (j : Instrument) (t : Side)
    → ((o.instrument ≡ j) × (o.side ≡ t) → ⊥) → KeepsCost xs (xs ++ o ∷ []) j t
others_when_it_comes xs o j t other None h = front_of_others xs o j t None other h
others_when_it_comes xs o j t other (Some c) h = record
    { front = h.front; is = front_of_others xs o j t (Some h.front) other h.is; sum = h.sum }

pub others_when_it_leaves : (xs : List Order) (o : Order) (j : Instrument) (t : Side) → Ascends xs → Contains xs o
    → ((o.instrument ≡ j) × (o.side ≡ t) → ⊥) → KeepsCost xs (removed o.place xs) j t
others_when_it_leaves xs o j t up stood other None h = front_removed xs o.place j t None (λ p e. cc) h
others_when_it_leaves xs o j t up stood other (Some c) h = record {
  front = h.front;
  is = front_removed xs o.place j t (Some h.front) (of_another xs o j t (Some h.front) up stood other h.is) h.is;
  sum = h.sum;
}

-- an order changed in its queue costs what it did
pub changed_in_queue : (f : Order → Order) → KeepsQueue f → (xs : List Order) (place : ℕ) (j : Instrument) (t : Side)
    → KeepsCost xs (changed f place xs) j t
changed_in_queue f keeps xs place j t None h = any_front_changed f keeps xs place j t None h
changed_in_queue f keeps xs place j t (Some c) h = record {
  front = changed_at f place h.front;
  is = any_front_changed f keeps xs place j t (Some h.front) h.is;
  sum = h.sum ∙ ap (cost (other_side t)) (sym (key_kept (λ (o : Order). o.price) f keeps.price place h.front));
}

-- ---- its own queue, where another order is as good

-- the front of that level costs no more
level_no_dearer : (xs : List Order) (o : Order) (l : Level) → IsFrontLevel xs o.instrument o.side (Some l)
    → is_as_good (Some l) o ≡ true →
    (g : Order) × IsFront xs o.instrument o.side (Some g)
    × (cost (other_side o.side) g.price ≤ℤ cost (other_side o.side) o.price)
level_no_dearer xs o l h good =
    let g = front_of_level xs o.instrument o.side l h in
    let low : cost (other_side o.side) l.price ≤ℤ cost (other_side o.side) o.price = grind (arith, ints, good) in (
      g.0,
      g.1.front,
      subst (λ (k : Level). cost (other_side o.side) k.price ≤ℤ cost (other_side o.side) o.price)
          (sym g.1.stands) low,
    )

wider : (xs : List Order) (o : Order) (j : Instrument) (t : Side) (p : Order) → Rests xs j t p
    → Rests (xs ++ o ∷ []) j t p
wider xs o j t p r = record {
  stands = Contains-append_left xs (o ∷ []) p r.stands;
  instrument_is = r.instrument_is;
  side_is = r.side_is;
}

came_no_less : (xs : List Order) (o g p : Order) (paid : ℤ) → HasFront xs o.instrument o.side paid
    → IsFront xs o.instrument o.side (Some g) → cost (other_side o.side) g.price ≤ℤ cost (other_side o.side) o.price →
    Rests (xs ++ o ∷ []) o.instrument o.side p → paid ≤ℤ cost (other_side o.side) p.price
came_no_less xs o g p paid f front low r =
    elim (Contains-push_cases xs o p r.stands) [
      | inl c ↦ no_dearer xs o.instrument o.side paid p f
          (record { stands = c; instrument_is = r.instrument_is; side_is = r.side_is })
      | inr e ↦
          let under = no_dearer xs o.instrument o.side paid g f front.0 in
          subst (λ (q : Order). paid ≤ℤ cost (other_side o.side) q.price) e (omega (arith, ints, under, low))
    ]

came_same : (xs : List Order) (o g : Order) (paid : ℤ) (c : Option ℤ) → HasFront xs o.instrument o.side paid
    → IsFront xs o.instrument o.side (Some g) → cost (other_side o.side) g.price ≤ℤ cost (other_side o.side) o.price →
    CostsOfFront (xs ++ o ∷ []) o.instrument o.side c → HasFront (xs ++ o ∷ []) o.instrument o.side paid
came_same xs o g paid None f front low h = absurd (h g (wider xs o o.instrument o.side g front.0))
came_same xs o g paid (Some v) f front low h =
    let over : v ≤ℤ paid = subst (λ (p : ℤ). v ≤ℤ p) (sym f.sum)
    (no_dearer (xs ++ o ∷ []) o.instrument o.side v f.front h (wider xs o o.instrument o.side f.front f.is.0)) in
    let under : paid ≤ℤ v = subst (λ (p : ℤ). paid ≤ℤ p) (sym h.sum)
    (came_no_less xs o g h.front paid f front low h.is.0) in
    let same : v ≡ paid = omega (arith, ints, over, under) in
    subst (HasFront (xs ++ o ∷ []) o.instrument o.side) same h

pub own_when_it_comes : (xs : List Order) (o : Order) (l : Option Level) → IsFrontLevel xs o.instrument o.side l
    → is_as_good l o ≡ true → KeepsCost xs (xs ++ o ∷ []) o.instrument o.side
own_when_it_comes xs o None h good c f = cc
own_when_it_comes xs o (Some l) h good None f = let g = level_no_dearer xs o l h good in absurd (f g.0 g.1.0)
own_when_it_comes xs o (Some l) h good (Some paid) f =
    let g = level_no_dearer xs o l h good in
    let there = cost_there (xs ++ o ∷ []) o.instrument o.side in
    came_same xs o g.0 paid there.0 f g.1 g.2 there.1

stood_in : (xs : List Order) (place : ℕ) (j : Instrument) (t : Side) (p : Order) → Rests (removed place xs) j t p
    → Rests xs j t p
stood_in xs place j t p r = record {
  stands = (from_removed place xs p r.stands).0;
  instrument_is = r.instrument_is;
  side_is = r.side_is;
}

left_no_less : (xs : List Order) (o g p : Order) → Ascends xs → Contains xs o
    → IsFront (removed o.place xs) o.instrument o.side (Some g)
    → cost (other_side o.side) g.price ≤ℤ cost (other_side o.side) o.price →
    Rests xs o.instrument o.side p → cost (other_side o.side) g.price ≤ℤ cost (other_side o.side) p.price
left_no_less xs o g p up stood front low r =
    elim (is_so (p.place == o.place)) [
      | inl k ↦
          let at : p.place ≡ o.place = grind (arith, nat_tests, k) in
          subst (λ (q : Order). cost (other_side o.side) g.price ≤ℤ cost (other_side o.side) q.price)
          (sym (one_at_a_place xs p o up r.stands stood at)) low
      | inr k ↦ no_dearer (removed o.place xs) o.instrument o.side _ p (record { front = g; is = front; sum = refl })
          (record { stands = in_removed o.place xs p r.stands k; instrument_is = r.instrument_is; side_is = r.side_is })
    ]

pub own_when_it_leaves : (xs : List Order) (o : Order) (l : Option Level) → Ascends xs → Contains xs o
    → IsFrontLevel (removed o.place xs) o.instrument o.side l → is_as_good l o ≡ true →
    KeepsCost xs (removed o.place xs) o.instrument o.side
own_when_it_leaves xs o None up stood h good c f = cc
own_when_it_leaves xs o (Some l) up stood h good None f =
    let g = level_no_dearer (removed o.place xs) o l h good in
    absurd (f g.0 (stood_in xs o.place o.instrument o.side g.0 g.1.0))
own_when_it_leaves xs o (Some l) up stood h good (Some paid) f =
    let g = level_no_dearer (removed o.place xs) o l h good in
    let under : paid ≤ℤ cost (other_side o.side) g.0.price =
    no_dearer xs o.instrument o.side paid g.0 f (stood_in xs o.place o.instrument o.side g.0 g.1.0) in
    let over : cost (other_side o.side) g.0.price ≤ℤ paid =
    subst (λ (p : ℤ). cost (other_side o.side) g.0.price ≤ℤ p) (sym f.sum)
    (left_no_less xs o g.0 f.front up stood g.1 g.2 f.is.0) in
    record { front = g.0; is = g.1; sum = omega (arith, ints, over, under) }
