-- what becomes of a front as orders come and go
use Rattle.std.proofs.Common.{◌≡◌, ℕ, ◌==◌, true, false, List, [], ◌∷◌, ◌++◌, Contains, Option, Some, None, option_map, refl, sym, ap, ◌∙◌, subst, arith, inl, inr}
use Rattle.std.specs.Ordering.{is_lt}
use Rattle.std.specs.declared.cmp.Ordering.{Ordering}
use Rattle.std.specs.declared.cmp.Ordering.TheVariants.{Less, Equal, Greater}
use Rattle.std.proofs.lemmas.Cmp.{tied_itself}
use Rattle.std.proofs.lemmas.Bool.Decides.{nat_tests}
use Rattle.std.proofs.lemmas.List.Elements.{Contains-append_left, Contains-push, Contains-push_cases}
use Rattle.spread_rules.specs.declared.order.Side.{Side}
use Rattle.spread_rules_rulebook.specs.declared.instrument.Instrument.{Instrument}
use Rattle.spread_rules.specs.declared.order.Order.{Order}
use Rattle.spread_rules.specs.declared.order.Level.{Level}
use Rattle.spread_rules.specs.code.Candidates.{better_by}
use Rattle.spread_rules.specs.code.Quiet.{Rests}
use Rattle.spread_rules.specs.Clearing.{removed}
use Rattle.spread_rules_rulebook.proofs.lists.Membership.{in_head, in_map, from_map}
use Rattle.spread_books_plain.specs.Queues.{IsFront, IsFrontLevel, is_in, is_ahead, queue_cmp}
use Rattle.spread_books_rows.specs.Places.{Ascends}
use Rattle.spread_books_plain.proofs.fronts.FoldGivesFront.{queue_total, in_queue, from_queue}
use Rattle.spread_books_rows.proofs.places.Ascending.{one_at_a_place, is_so, from_removed, in_removed}
use Rattle.spread_books_rows.proofs.places.ChangedAt.{changed_at, changed, key_kept}

is_less : (r : Ordering) → is_lt r ≡ true → r ≡ Less
is_less Less h = refl
is_less Equal h = cc
is_less Greater h = cc

pub not_ahead_itself : (side : Side) (o : Order) → is_ahead side o o ≡ false
not_ahead_itself side o = ap (λ (r : Ordering). is_lt r) (tied_itself (queue_total side) o)

-- whoever stands ahead of one ahead stands ahead too
ahead_through : (side : Side) (a b c : Order) → is_ahead side a b ≡ true → is_ahead side b c ≡ true
    → is_ahead side a c ≡ true
ahead_through side a b c h k = ap (λ (r : Ordering). is_lt r)
    ((queue_total side).trans a b c (is_less (queue_cmp side a b) h) (is_less (queue_cmp side b c) k))

-- ---- one order more

-- of another queue
pub front_of_others : (xs : List Order) (o : Order) (j : Instrument) (t : Side) (f : Option Order)
    → ((o.instrument ≡ j) × (o.side ≡ t) → ⊥) → IsFront xs j t f → IsFront (xs ++ o ∷ []) j t f
front_of_others xs o j t None other h = λ p r.
    elim (Contains-push_cases xs o p r.stands) [
      | inl c ↦ h p (record { stands = c; instrument_is = r.instrument_is; side_is = r.side_is })
      | inr e ↦ other (subst (λ (q : Order). (q.instrument ≡ j) × (q.side ≡ t)) (sym e) (r.instrument_is, r.side_is))
    ]
front_of_others xs o j t (Some f) other h = (
  record {
    stands = Contains-append_left xs (o ∷ []) f h.0.stands;
    instrument_is = h.0.instrument_is;
    side_is =
        h.0.side_is;
  },
  λ p r.
      elim (Contains-push_cases xs o p r.stands) [
        | inl c ↦ h.1 p (record { stands = c; instrument_is = r.instrument_is; side_is = r.side_is })
        | inr e ↦ absurd (other (subst (λ (q : Order). (q.instrument ≡ j) × (q.side ≡ t)) (sym e)
            (r.instrument_is, r.side_is)))
      ],
)

-- of its own queue
pub front_of_own : (xs : List Order) (o r : Order) (f : Option Order) → IsFront xs o.instrument o.side f
    → Some r ≡ better_by (is_ahead o.side) f (Some o) → IsFront (xs ++ o ∷ []) o.instrument o.side (Some r)
front_of_own xs o r None h e =
    let same : o ≡ r = cc in
    subst (λ (q : Order). IsFront (xs ++ o ∷ []) o.instrument o.side (Some q)) same (
      record { stands = Contains-push xs o; instrument_is = refl; side_is = refl },
      λ p k.
          elim (Contains-push_cases xs o p k.stands) [
            | inl c ↦ absurd (h p (record { stands = c; instrument_is = k.instrument_is; side_is = k.side_is }))
            | inr d ↦ subst (λ (q : Order). is_ahead o.side q o ≡ false) d (not_ahead_itself o.side o)
          ],
    )
front_of_own xs o r (Some f) h e =
    elim (is_so (is_ahead o.side o f)) [
      | inl a ↦
          let same : o ≡ r = let g = rw a at e in cc in
          subst (λ (q : Order). IsFront (xs ++ o ∷ []) o.instrument o.side (Some q)) same (
            record { stands = Contains-push xs o; instrument_is = refl; side_is = refl },
            λ p k.
                elim (Contains-push_cases xs o p k.stands) [
                  | inl c ↦ elim (is_so (is_ahead o.side p o)) [
                    | inl b ↦ let x = ahead_through o.side p o f b a in let y =
                        h.1 p (record { stands = c; instrument_is = k.instrument_is; side_is = k.side_is }) in cc
                    | inr b ↦ b
                  ]
                  | inr d ↦ subst (λ (q : Order). is_ahead o.side q o ≡ false) d (not_ahead_itself o.side o)
                ],
          )
      | inr a ↦
          let same : f ≡ r = let g = rw a at e in cc in
          subst (λ (q : Order). IsFront (xs ++ o ∷ []) o.instrument o.side (Some q)) same (
            record {
              stands = Contains-append_left xs (o ∷ []) f h.0.stands;
              instrument_is = h.0.instrument_is;
              side_is = h.0.side_is;
            },
            λ p k.
                elim (Contains-push_cases xs o p k.stands) [
                  | inl c ↦ h.1 p (record { stands = c; instrument_is = k.instrument_is; side_is = k.side_is })
                  | inr d ↦ subst (λ (q : Order). is_ahead o.side q f ≡ false) d a
                ],
          )
    ]

-- of the queue that it is tested to be in
pub front_of_queue : (xs : List Order) (o r : Order) (j : Instrument) (t : Side) (f : Option Order) → is_in j t o ≡ true
    → IsFront xs j t f → Some r ≡ better_by (is_ahead o.side) f (Some o) → IsFront (xs ++ o ∷ []) j t (Some r)
front_of_queue xs o r j t f here h e =
    let q = from_queue j t o here in
    let own : IsFront xs o.instrument o.side f = subst (λ (s : Side). IsFront xs o.instrument s f) (sym q.1)
    (subst (λ (i : Instrument). IsFront xs i t f) (sym q.0) h) in
    subst (λ (i : Instrument). IsFront (xs ++ o ∷ []) i t (Some r)) q.0
    (subst (λ (s : Side). IsFront (xs ++ o ∷ []) o.instrument s (Some r)) q.1 (front_of_own xs o r f own e))

-- of a queue that it is tested not to be in
pub front_of_no_queue : (xs : List Order) (o : Order) (j : Instrument) (t : Side) (f : Option Order)
    → is_in j t o ≡ false → IsFront xs j t f → IsFront (xs ++ o ∷ []) j t f
front_of_no_queue xs o j t f other h =
    front_of_others xs o j t f (λ e. let k = in_queue (o ∷ []) j t o
    (record { stands = in_head o []; instrument_is = e.0; side_is = e.1 }) in cc) h

pub level_of_no_queue : (xs : List Order) (o : Order) (j : Instrument) (t : Side) (l : Option Level)
    → is_in j t o ≡ false → IsFrontLevel xs j t l → IsFrontLevel (xs ++ o ∷ []) j t l
level_of_no_queue xs o j t l other h = (h.0, front_of_no_queue xs o j t h.0 other h.1, h.2)

-- ---- one order less, or less of it, where another is the front

differs : (a b : ℕ) → (a ≡ b → ⊥) → (a == b) ≡ false
differs a b h = elim (is_so (a == b)) [ inl k ↦ absurd (h (grind (arith, nat_tests))) | inr k ↦ k ]

pub front_removed : (xs : List Order) (place : ℕ) (j : Instrument) (t : Side) (f : Option Order)
    → ((h : Order) → f ≡ Some h → h.place ≡ place → ⊥) → IsFront xs j t f → IsFront (removed place xs) j t f
front_removed xs place j t None other h = λ p r. h p
    (record { stands = (from_removed place xs p r.stands).0; instrument_is = r.instrument_is; side_is = r.side_is })
front_removed xs place j t (Some f) other h = (
  record {
    stands = in_removed place xs f h.0.stands (differs f.place place (other f refl));
    instrument_is =
        h.0.instrument_is;
    side_is = h.0.side_is;
  },
  λ p r. h.1 p (record {
    stands = (from_removed place xs p r.stands).0;
    instrument_is = r.instrument_is;
    side_is =
        r.side_is;
  }),
)

-- a change of an order that leaves it in its queue and at its place there
pub record KeepsQueue (f : Order → Order) : Type 0 where
  pub instrument : (o : Order) → (f o).instrument ≡ o.instrument
  pub side : (o : Order) → (f o).side ≡ o.side
  pub price : (o : Order) → (f o).price ≡ o.price
  pub place : (o : Order) → (f o).place ≡ o.place

module _ (f : Order → Order) (keeps : KeepsQueue f) (xs : List Order) (place : ℕ) (j : Instrument) (t : Side) where
  rested : (p : Order) → Rests (changed f place xs) j t p → (q : Order) × Rests xs j t q × (changed_at f place q ≡ p)
  rested p r =
      let m = from_map (changed_at f place) xs p r.stands in (
        m.0,
        record {
          stands = m.1;
          instrument_is = sym (key_kept (λ (o : Order). o.instrument) f keeps.instrument place m.0)
              ∙ ap (λ (o : Order). o.instrument) m.2 ∙ r.instrument_is;
          side_is = sym (key_kept (λ (o : Order). o.side) f keeps.side place m.0) ∙ ap (λ (o : Order). o.side) m.2
              ∙ r.side_is;
        },
        m.2,
      )

  ahead_as : (a b : Order) → is_ahead t (changed_at f place a) (changed_at f place b) ≡ is_ahead t a b
  ahead_as a b =
      rw (
        key_kept (λ (o : Order). o.price) f keeps.price place a,
        key_kept (λ (o : Order). o.price) f keeps.price place b,
        key_kept (λ (o : Order). o.place) f keeps.place place a,
        key_kept (λ (o : Order). o.place) f keeps.place place b,
      ) refl

  -- the changed front is the front
  front_changed : (h : Order) → IsFront xs j t (Some h) → IsFront (changed f place xs) j t (Some (changed_at f place h))
  front_changed h k = (
    record {
      stands = in_map (changed_at f place) xs h k.0.stands;
      instrument_is = key_kept (λ (o : Order). o.instrument) f keeps.instrument place h ∙ k.0.instrument_is;
      side_is = key_kept (λ (o : Order). o.side) f keeps.side place h ∙ k.0.side_is;
    },
    λ p r.
        let m = rested p r in
        subst (λ (q : Order). is_ahead t q (changed_at f place h) ≡ false) m.2 (ahead_as m.0 h ∙ k.1 m.0 m.1),
  )

  pub any_front_changed : (h : Option Order) → IsFront xs j t h
      → IsFront (changed f place xs) j t (option_map (changed_at f place) h)
  any_front_changed None k = λ p r. let m = rested p r in k m.0 m.1
  any_front_changed (Some h) k = front_changed h k

-- the front of another queue is another order
pub of_another : (xs : List Order) (o : Order) (j : Instrument) (t : Side) (f : Option Order) → Ascends xs
    → Contains xs o → ((o.instrument ≡ j) × (o.side ≡ t) → ⊥) → IsFront xs j t f → (h : Order) → f ≡ Some h
    → h.place ≡ o.place → ⊥
of_another xs o j t f up c other front h e same =
    let k = subst (λ (r : Option Order). IsFront xs j t r) e front in
    let one = one_at_a_place xs h o up k.0.stands c same in
    other (subst (λ (q : Order). (q.instrument ≡ j) × (q.side ≡ t)) one (k.0.instrument_is, k.0.side_is))
