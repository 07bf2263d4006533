-- what the levels of two fronts tell of their queues
use Rattle.std.proofs.Common.{◌≡◌, false, Option, List, Some, None, is_some, option_map, refl, subst, ap, ◌∙◌, IfSome, Bool, true, ℤ}
use Rattle.spread_rules.specs.declared.order.Side.{Side}
use Rattle.spread_rules_rulebook.specs.declared.instrument.Instrument.{Instrument}
use Rattle.spread_rules.specs.declared.order.Order.{Order}
use Rattle.spread_rules.specs.declared.order.Level.{Level}
use Rattle.spread_rules.specs.declared.candidate.Candidate.{Candidate}
use Rattle.spread_rules.specs.declared.candidate.Counterparty.TheVariants.{Direct, Implied}
use Rattle.spread_rules.specs.declared.candidate.Counterparty.{Counterparty}
use Rattle.spread_rules.specs.code.Cases.{price_if, level_of}
use Rattle.spread_rules.specs.Legs.{other_side}
use Rattle.spread_rules.specs.Candidates.{Pairs, is_within_limit}
use Rattle.spread_rules.specs.code.Candidates.{candidate_of, candidate_at}
use Rattle.spread_rules.specs.code.Quiet.{Rests}
use Rattle.spread_books_plain.specs.Queues.{IsFront, IsFrontLevel}
use Rattle.spread_books_search.specs.code.Best.{CoversOne, CoversTwo, IsBeyond}
use Rattle.spread_books_search.proofs.fronts.BeatAnyPair.{front_beats, fronts_beat}

-- an order is the front of its queue, and stands at that level
pub record IsFrontAt (xs : List Order) (of : Instrument) (side : Side) (level : Level) (o : Order) : Type 0 where
  pub front : IsFront xs of side (Some o)
  pub stands : level_of o ≡ level

front_at : (xs : List Order) (of : Instrument) (side : Side) (level : Level) (front : Option Order)
    → IsFront xs of side front → Some level ≡ option_map level_of front → (o : Order) × IsFrontAt xs of side level o
front_at xs of side level None h e = cc
front_at xs of side level (Some o) h e = (o, record { front = h; stands = cc })

-- a level is that of a front
pub front_of_level : (xs : List Order) (of : Instrument) (side : Side) (level : Level)
    → IsFrontLevel xs of side (Some level) → (o : Order) × IsFrontAt xs of side level o
front_of_level xs of side level h = front_at xs of side level h.0 h.1 h.2

none_at : (xs : List Order) (of : Instrument) (side : Side) (front : Option Order) → IsFront xs of side front
    → None ≡ option_map level_of front → (o : Order) → Rests xs of side o → ⊥
none_at xs of side None h e = h
none_at xs of side (Some o) h e = cc

-- without a level nothing rests
pub none_without_level : (xs : List Order) (of : Instrument) (side : Side) → IsFrontLevel xs of side None → (o : Order)
    → Rests xs of side o → ⊥
none_without_level xs of side h = none_at xs of side h.0 h.1 h.2

pub is_none : {A : Type 0} (o : Option A) → is_some o ≡ false → o ≡ None
is_none None e = refl
is_none (Some x) e = cc

pub is_some_one : {A : Type 0} (o : Option A) → is_some o ≡ true → (x : A) × (o ≡ Some x)
is_some_one None e = cc
is_some_one (Some x) e = (x, refl)

-- where the fronts make no candidate, no pair of their queues does
pub none_meets : (on : Pairs) (n : Order) (xs : List Order) (of : Instrument) (side : Side) (and : Instrument)
    (and_side : Side) (f s : Order) →
    IsFront xs of side (Some f) → IsFront xs and and_side (Some s) → is_some (candidate_of on n (Implied f s)) ≡ false
    → CoversTwo on n xs of side and and_side None
none_meets on n xs of side and and_side f s hf hs e =
    subst (λ (r : Option Candidate). CoversTwo on n xs of side and and_side r)
    (is_none (candidate_of on n (Implied f s)) e) (fronts_beat on n xs of side and and_side f s hf hs)

-- a level beyond the limit is that of a front beyond it
pub level_beyond : (n : Order) (xs : List Order) (of : Instrument) (side : Side) (l : Level)
    → IsFrontLevel xs of side (Some l) → is_within_limit n.side n.price l.price ≡ false → IsBeyond xs of side n
level_beyond n xs of side l h e =
    let f = front_of_level xs of side l h in
    (Some f.0, f.1.front, ap (λ (k : Level). is_within_limit n.side n.price k.price) f.1.stands ∙ e)

pub no_level_beyond : (n : Order) (xs : List Order) (of : Instrument) (side : Side) → IsFrontLevel xs of side None
    → IsBeyond xs of side n
no_level_beyond n xs of side h = at h.0 h.1 h.2
  where
    at : (front : Option Order) → IsFront xs of side front → None ≡ option_map level_of front → IsBeyond xs of side n
    at None f e = (None, f, tt)
    at (Some o) f e = cc

beyond_is_none : (n : Order) (p : Counterparty) (v : ℤ) (b : Bool) → is_within_limit n.side n.price v ≡ false
    → candidate_at n p (price_if b v) ≡ None
beyond_is_none n p v true e = rw e refl
beyond_is_none n p v false e = refl

-- where the front stands beyond the limit, no order of its queue is within it
pub none_direct : (on : Pairs) (n : Order) (xs : List Order) → IsBeyond xs n.instrument (other_side n.side) n
    → CoversOne on n xs n.instrument (other_side n.side) None
none_direct on n xs h = at h.0 h.1 h.2
  where
    at : (front : Option Order) → IsFront xs n.instrument (other_side n.side) front
        → IfSome front (λ f. is_within_limit n.side n.price f.price ≡ false)
        → CoversOne on n xs n.instrument (other_side n.side) None
    at None f e = λ o price r eligible. absurd (f o r)
    at (Some o) f e = subst (CoversOne on n xs n.instrument (other_side n.side))
        (beyond_is_none n (Direct o) o.price _ e) (front_beats on n xs n.instrument o f)
