-- what a replace request comes to, case by case, and the orders that rest after it
use Rattle.std.proofs.Common.{◌≡◌, ◌≢◌, ℕ, ◌==◌, ◌-◌, ◌<◌, ◌≤◌, Bool, true, false, not, ◌&&◌, cond, List, get_or, Contains, All, Option, Some, None, Result, Ok, Err, ◌⊎◌, inl, inr, refl, subst, sym, ap, ◌∙◌, arith}
use Rattle.std.proofs.lemmas.Bool.{and_parts, not-true}
use Rattle.std.specs.Prelude.{nat_le}
use Rattle.std.specs.List.{find}
use Rattle.std.specs.Str.{bytes_eq}
use Rattle.std.specs.Ordering.{int_eq}
use Rattle.std.proofs.lemmas.Bool.Decides.{nat_tests}
use Rattle.std.proofs.lemmas.Int.{ints}
use Rattle.std.proofs.lemmas.List.Elements.{All-contains, Contains-get_or}
use Rattle.std.proofs.lemmas.Slice.Eq.{bytes_eq-Decides}
use Rattle.spread_rules.specs.declared.order.Order.{Order}
use Rattle.spread_rules.specs.declared.order.Side.{Side}
use Rattle.spread_rules.specs.declared.order.Side.TheVariants.{Buy, Sell}
use Rattle.spread_rules_rulebook.specs.declared.instrument.Instrument.{Instrument}
use Rattle.spread_rules.specs.declared.event.Ticket.{Ticket}
use Rattle.spread_rules.specs.declared.event.Event.{Event}
use Rattle.spread_rules.specs.declared.event.Event.TheVariants.{Logon, New, Cancel, Replace, TestReply, Gap, Resend, Reject, Close}
use Rattle.spread_rules.specs.declared.outcome.OrderStatus.{OrderStatus}
use Rattle.spread_rules.specs.code.Cases.{amended_at, keeping_means, moving_means, replace_of_resting}
use Rattle.spread_rules.specs.Amended.{done, with_quantity}
use Rattle.spread_rules.specs.code.Amended.{amended}
use Rattle.spread_rules.specs.Candidates.{same_instrument}
use Rattle.spread_rules.specs.code.Candidates.{HasOrderPrice}
use Rattle.spread_rules.specs.Clearing.{clear, removed}
use Rattle.spread_rules.specs.Legs.{is_side}
use Rattle.spread_rules.specs.Meaning.{EntryMeaning, cancel_of_nothing_resting, has_id, is_own, is_refused, may_replace, new_means, replace_means, ticket_of}
use Rattle.spread_rules.specs.code.Meaning.{JournalState, keeps_place, meaning_of, moved_to, refusal_or_instrument, replace_refused, statuses_of}
use Rattle.spread_rules.proofs.clearings.BoughtIsSold.{same_instrument_is}
use Rattle.spread_rules_rulebook.specs.Rulebook.{Rules, find_symbol, references_of, implied}
use Rattle.spread_rules_rulebook.proofs.lists.Membership.{from_map}
use Rattle.spread_books_search.specs.Listed.{IsNearFirst, IsInMonths}
use Rattle.spread_match_trading.specs.Tradable.{IsTradable}
use Rattle.spread_match_orders.proofs.entries.FoundStands.{find_holds}
use Rattle.spread_match_statuses.proofs.status_rows.MarkedRows.{same_number}

-- ---- the order that is named

pub record IsOwn (session : ℕ) (id : List ℕ) (o : Order) : Type 0 where
  pub session_is : o.session ≡ session
  pub id_is : o.id ≡ id

pub own_is : (xs : List Order) (session : ℕ) (id : List ℕ) (o : Order) → find (is_own session id) xs ≡ Some o
    → IsOwn session id o
own_is xs session id o e =
    let k = and_parts (o.session == session) (bytes_eq o.id id) (find_holds (is_own session id) xs o e) in
    record { session_is = same_number o.session session k.0; id_is = (bytes_eq-Decides o.id id).0 k.1 }

-- ---- the cases of a request

-- the ticket could be a new day order of the order's instrument and side, and wants more than is filled
pub record CanReplace (t : Ticket) (r : Order) (instrument : Result Instrument ℕ) : Type 0 where
  pub fits : instrument ≡ Ok r.instrument
  pub side : t.side ≡ r.side
  pub day : t.immediate ≡ false
  pub more : done r < t.quantity

pub record CanKeepPlace (t : Ticket) (r : Order) : Type 0 where
  pub price : t.price ≡ r.price
  pub most : t.quantity ≤ r.quantity

same_side : (s t : Side) → is_side s t ≡ true → s ≡ t
same_side Buy Buy e = refl
same_side Sell Sell e = refl
same_side Buy Sell e = cc
same_side Sell Buy e = cc

more_than : (a b : ℕ) → nat_le a b ≡ false → b < a
more_than a b e = grind (arith, nat_tests, e)

can_replace : (t : Ticket) (r : Order) (instrument : Result Instrument ℕ) → may_replace t r instrument ≡ true
    → nat_le t.quantity (done r) ≡ false → CanReplace t r instrument
can_replace t r (Err reason) e m = cc
can_replace t r (Ok i) e m =
    let a = and_parts (same_instrument i r.instrument && is_side t.side r.side) (not t.immediate) e in
    let b = and_parts (same_instrument i r.instrument) (is_side t.side r.side) a.0 in
    record {
      fits = ap (λ (j : Instrument). Ok j) (same_instrument_is i r.instrument b.0);
      side = same_side t.side r.side b.1;
      day = not-true t.immediate a.1;
      more = more_than t.quantity (done r) m;
    }

can_keep : (t : Ticket) (r : Order) → keeps_place t r ≡ true → CanKeepPlace t r
can_keep t r e =
    let a = and_parts (int_eq t.price r.price) (nat_le t.quantity r.quantity) e in
    let p = a.0 in let q = a.1 in
    record { price = grind (arith, ints, p); most = grind (arith, nat_tests, q) }

pub by_replace : (P : EntryMeaning → Type 0) (rules : Rules) (xs : List Order) (place : ℕ) (t : Ticket)
    (instrument : Result Instrument ℕ) (r : Order) →
    ((reason : ℕ) → P (replace_refused reason r xs)) →
    (CanReplace t r instrument → CanKeepPlace t r → P (keeping_means xs t r)) →
    (CanReplace t r instrument → P (moving_means (moved_to place t r)
    (clear (implied rules) (references_of rules) (moved_to place t r) (removed r.place xs)))) →
    P (replace_of_resting rules xs place t instrument r)
by_replace P rules xs place t instrument r refused kept moved =
    by_tests (may_replace t r instrument) refl (nat_le t.quantity (done r)) refl (keeps_place t r) refl
  where
    means : Bool → Bool → Bool → EntryMeaning
    means a b c =
        cond (not a) (replace_refused 2 r xs)
        (cond b (replace_refused 0 r xs)
        (cond c (keeping_means xs t r)
        (moving_means (moved_to place t r) (clear (implied rules) (references_of rules) (moved_to place t r)
        (removed r.place xs)))))

    by_tests : (a : Bool) → may_replace t r instrument ≡ a → (b : Bool) → nat_le t.quantity (done r) ≡ b → (c : Bool)
        → keeps_place t r ≡ c → P (means a b c)
    by_tests false e b f c g = refused 2
    by_tests true e true f c g = refused 0
    by_tests true e false f true g = kept (can_replace t r instrument e f) (can_keep t r g)
    by_tests true e false f false g = moved (can_replace t r instrument e f)

pub none_refused : (earlier : Option OrderStatus) → is_refused (cancel_of_nothing_resting earlier) ≡ true
none_refused None = refl
none_refused (Some s) = refl

-- ---- what is not refused has an id that was not used

new_unused : (rules : Rules) (xs : List Order) (place session : ℕ) (t : Ticket) (named : Option Instrument)
    (earlier : Option OrderStatus) →
    is_refused (new_means rules xs place session t (refusal_or_instrument rules t earlier named)).outcome ≡ false
    → earlier ≡ None
new_unused rules xs place session t named None a = refl
new_unused rules xs place session t named (Some s) a = cc

replace_unused : (rules : Rules) (xs : List Order) (place : ℕ) (t : Ticket) (named : Option Instrument)
    (earlier other : Option OrderStatus) (found : Option Order) →
    is_refused (replace_means rules xs place t (refusal_or_instrument rules t earlier named) other found).outcome ≡
    false → earlier ≡ None
replace_unused rules xs place t named None other found a = refl
replace_unused rules xs place t named (Some s) None None a = cc
replace_unused rules xs place t named (Some s) (Some u) None a = cc
replace_unused rules xs place t named (Some s) other (Some r) a = cc

some_ticket : (t u : Ticket) → ◌≡◌ {A = Option Ticket} (Some u) (Some t) → u ≡ t
some_ticket t u e = cc

pub accepted_unused : (rules : Rules) (past : JournalState) (place session : ℕ) (event : Event) (t : Ticket)
    → ticket_of event ≡ Some t →
    is_refused (meaning_of rules past place (record { session = session; event = event })).outcome ≡ false
    → find (has_id session t.id) (statuses_of past) ≡ None
accepted_unused rules past place session (New u) t e a =
    ap (λ (x : Ticket). find (has_id session x.id) (statuses_of past)) (sym (some_ticket t u e))
    ∙ new_unused rules past.orders place session u (find_symbol rules u.symbol)
    (find (has_id session u.id) (statuses_of past)) a
accepted_unused rules past place session (Replace original u) t e a =
    ap (λ (x : Ticket). find (has_id session x.id) (statuses_of past)) (sym (some_ticket t u e))
    ∙ replace_unused rules past.orders place u (find_symbol rules u.symbol)
    (find (has_id session u.id) (statuses_of past)) (find (has_id session original) (statuses_of past))
    (find (is_own session original) past.orders) a
accepted_unused rules past place session (Cancel id original) t e a = cc
accepted_unused rules past place session (Logon client host beat) t e a = cc
accepted_unused rules past place session (TestReply text) t e a = cc
accepted_unused rules past place session (Gap first) t e a = cc
accepted_unused rules past place session (Resend first until) t e a = cc
accepted_unused rules past place session (Reject number reason) t e a = cc
accepted_unused rules past place session (Close reason) t e a = cc

-- ---- the orders when one is amended

-- an order after that one was amended, and what it was
pub record IsAfterAmend (xs : List Order) (place : ℕ) (id : List ℕ) (quantity : ℕ) (o : Order) : Type 0 where
  pub was : Order
  pub stands : Contains xs was
  pub is : ((was.place ≡ place) × (with_quantity id quantity was ≡ o)) ⊎ ((was.place ≢ place) × (was ≡ o))

pub from_amended : (xs : List Order) (place : ℕ) (id : List ℕ) (quantity : ℕ) (o : Order)
    → Contains (amended place id quantity xs) o → IsAfterAmend xs place id quantity o
from_amended xs place id quantity o c =
    let r = from_map (amended_at place id quantity) xs o c in
    by_test r.0 r.1 r.2 (r.0.place == place) refl
  where
    by_test : (w : Order) → Contains xs w → amended_at place id quantity w ≡ o → (b : Bool) → (w.place == place) ≡ b
        → IsAfterAmend xs place id quantity o
    by_test w stands e true f =
        record {
          was = w;
          stands = stands;
          is = inl (
            same_number w.place place f,
            sym (ap (λ (b : Bool). cond b (with_quantity id quantity w) w) f) ∙ e,
          );
        }
    by_test w stands e false f =
        record {
          was = w;
          stands = stands;
          is = inr (
            (λ k. let g : (w.place == place) ≡ true =
                grind (arith, nat_tests, k) in cc),
            sym (ap (λ (b : Bool). cond b (with_quantity id quantity w) w) f) ∙ e,
          );
        }

pub amended_place : (xs : List Order) (place : ℕ) (id : List ℕ) (quantity : ℕ) (o : Order)
    (a : IsAfterAmend xs place id quantity o) → a.was.place ≡ o.place
amended_place xs place id quantity o a = elim a.is [
  | inl k ↦ ap (λ (w : Order). w.place) k.1
  | inr k ↦ ap (λ (w : Order). w.place) k.1
]

-- what holds of each, whatever its id and quantity
pub all_amended : (P : Order → Type 0) (xs : List Order) (place : ℕ) (id : List ℕ) (quantity : ℕ)
    → ((o : Order) → P o → P (with_quantity id quantity o)) → All P xs → All P (amended place id quantity xs)
all_amended P xs place id quantity keep h = λ k d lt.
    let o = get_or (amended place id quantity xs) k d in
    let a = from_amended xs place id quantity o (Contains-get_or (amended place id quantity xs) k d lt) in
    elim a.is [
      | inl e ↦ subst P e.1 (keep a.was (All-contains P xs a.was h a.stands))
      | inr e ↦ subst P e.1 (All-contains P xs a.was h a.stands)
    ]

-- the order of that place is amended to more than is filled
pub amended_tradable : (months : ℕ) (xs : List Order) (r : Order) (id : List ℕ) (quantity : ℕ) → IsTradable months xs
    → Contains xs r → done r < quantity → IsTradable months (amended r.place id quantity xs)
amended_tradable months xs r id quantity t stands more = record {
  small = all_amended HasOrderPrice xs r.place id quantity (λ o h. record { low = h.low; high = h.high }) t.small;
  listed = all_amended IsNearFirst xs r.place id quantity (λ o h. record { near_before_far = h.near_before_far })
      t.listed;
  within = all_amended (λ (o : Order). IsInMonths months o.instrument) xs r.place id quantity (λ o h. h) t.within;
  places = λ a b ca cb e.
      let wa = from_amended xs r.place id quantity a ca in
      let wb = from_amended xs r.place id quantity b cb in
      let pa = amended_place xs r.place id quantity a wa in
      let pb = amended_place xs r.place id quantity b wb in
      let same : wa.was ≡ wb.was = t.places wa.was wb.was wa.stands wb.stands (pa ∙ (e ∙ sym pb)) in
      both a b wa wb same;
  left = λ k d lt.
      let o = get_or (amended r.place id quantity xs) k d in
      let a = from_amended xs r.place id quantity o (Contains-get_or (amended r.place id quantity xs) k d lt) in
      elim a.is [
        | inl e ↦
            let own : a.was ≡ r = t.places a.was r a.stands stands e.0 in
            let some : 0 < quantity - done a.was = (let m : done a.was < quantity =
            subst (λ (w : Order). done w < quantity) (sym own) more in omega (arith, m)) in
            subst (λ (w : Order). 0 < w.leaves) e.1 some
        | inr e ↦ subst (λ (w : Order). 0 < w.leaves) e.1 (All-contains (λ (w : Order). 0 < w.leaves) xs a.was t.left
            a.stands)
      ];
}
  where
    both : (a b : Order) (wa : IsAfterAmend xs r.place id quantity a) (wb : IsAfterAmend xs r.place id quantity b)
        → wa.was ≡ wb.was → a ≡ b
    both a b wa wb same = elim wa.is [
      | inl e ↦ elim wb.is [
        | inl f ↦ sym e.1 ∙ (ap (with_quantity id quantity) same ∙ f.1)
        | inr f ↦ absurd (f.0 (sym (ap (λ (w : Order). w.place) same) ∙ e.0))
      ]
      | inr e ↦ elim wb.is [
        | inl f ↦ absurd (e.0 (ap (λ (w : Order). w.place) same ∙ f.0))
        | inr f ↦ sym e.1 ∙ (same ∙ f.1)
      ]
    ]
