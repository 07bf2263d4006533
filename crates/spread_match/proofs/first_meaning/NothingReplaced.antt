-- one entry more that replaces nothing: what the fills of the past say of its tickets by session and id they say by place
use Rattle.std.proofs.Common.{◌≡◌, ◌≢◌, ℕ, ◌==◌, ◌<◌, ◌≤◌, ℤ, Bool, true, false, not, ◌||◌, cond, List, [], ◌∷◌, ◌++◌, length, Contains, Option, Some, None, Result, Ok, Err, inl, inr, refl, subst, sym, ap, ◌∙◌, arith, append-nil}
use Rattle.std.proofs.lemmas.Bool.Decides.{nat_tests}
use Rattle.std.proofs.lemmas.List.Elements.{All-contains, Contains-push_cases}
use Rattle.std.specs.List.{find}
use Rattle.spread_rules.specs.declared.order.Order.{Order}
use Rattle.spread_rules_rulebook.specs.declared.instrument.Instrument.{Instrument}
use Rattle.spread_rules.specs.declared.fill.Fill.{Fill}
use Rattle.spread_rules.specs.declared.event.Ticket.{Ticket}
use Rattle.spread_rules.specs.declared.event.Entry.{Entry}
use Rattle.spread_rules.specs.declared.event.Event.{Event}
use Rattle.spread_rules.specs.declared.event.Event.TheVariants.{Logon, New, Cancel, Replace, TestReply, Gap, Resend, Reject, Close}
use Rattle.spread_rules.specs.declared.outcome.Outcome.{Outcome}
use Rattle.spread_rules.specs.declared.outcome.Outcome.TheVariants.{Rested, Filled, Ended, Refused}
use Rattle.spread_rules.specs.declared.outcome.OrderStatus.{OrderStatus}
use Rattle.spread_rules.specs.Clearing.{Trading, clear, removed}
use Rattle.spread_rules.specs.code.Clearing.{begin}
use Rattle.spread_rules.specs.Meaning.{cancel_means, filled, has_id, is_own, is_refused, new_means, order_of, outcome_of, place_left}
use Rattle.spread_rules.specs.code.Meaning.{JournalState, PastTicket, after_entry, meaning_of, no_entries, refusal_or_instrument, resting, statuses_of, with_meaning}
use Rattle.spread_rules.specs.MeaningBeforeReplaces.{is_replace, is_refused as was_refused}
use Rattle.spread_rules_rulebook.specs.Rulebook.{Rules, find_symbol, month_count, references_of, implied}
use Rattle.spread_rules_rulebook.proofs.lists.Membership.{not_in_nil}
use Rattle.spread_match.specs.Sound.{IsSound}
use Rattle.spread_match_orders.proofs.entries.NewOrder.{none_earlier, taken_is}
use Rattle.spread_match.proofs.entries.PastStaysSound.{filled_none, new_asks, rests_all, started}
use Rattle.spread_match.proofs.first_meaning.FilledWhole.{AreExact, IsExact, IsMarked, IsTicketOf, exact_turns}
use Rattle.spread_match.proofs.entries.StatusesOfThePast.{not_named, not_named_at, unused}
use Rattle.spread_rules.specs.Candidates.{Pairs}
use Rattle.spread_rules.proofs.clearings.ClearIsTurns.{clear_is}
use Rattle.spread_rules.proofs.clearings.TurnsEnd.{from_filter}

-- the ticket of a New entry, which was traded or refused
pub record IsOfNew (p : PastTicket) : Type 0 where
  pub original : p.original ≡ None
  pub place : place_left p.place p.outcome ≡ p.place
  pub refused : was_refused p.outcome ≡ is_refused p.outcome

-- of a past in which nothing was replaced
pub record IsFirst (past : JournalState) : Type 0 where
  pub exact : (o : Order) → Contains past.orders o → IsExact past.entered past.fills o
  pub marked : (p : PastTicket) → Contains past.entered p → is_refused p.outcome ≡ false → IsMarked past.fills p
  pub new : (p : PastTicket) → Contains past.entered p → IsOfNew p

pub none_first : IsFirst no_entries
none_first = record {
  exact = λ o c. absurd (not_in_nil o c);
  marked = λ p c a. absurd (not_in_nil p c);
  new =
      λ p c. absurd (not_in_nil p c);
}

-- ---- an entry without a ticket, which leaves fewer orders and no fill

fewer_first : (past : JournalState) (ys : List Order) → IsFirst past
    → ((o : Order) → Contains ys o → Contains past.orders o)
    → IsFirst (record { orders = ys; entered = past.entered ++ []; fills = past.fills ++ [] })
fewer_first past ys x on =
    subst (λ (ps : List PastTicket). IsFirst (record { orders = ys; entered = ps; fills = past.fills ++ [] }))
    (sym (append-nil past.entered))
    (subst (λ (fs : List Fill). IsFirst (record { orders = ys; entered = past.entered; fills = fs }))
    (sym (append-nil past.fills))
    (record { exact = λ o c. x.exact o (on o c); marked = x.marked; new = x.new }))

cancel_first : (past : JournalState) (place session : ℕ) (id original : List ℕ) (earlier : Option OrderStatus)
    (found : Option Order) → IsFirst past →
    IsFirst (with_meaning past place (record { session = session; event = Cancel id original })
    (cancel_means past.orders earlier found))
cancel_first past place session id original earlier (Some o) x =
    fewer_first past (removed o.place past.orders) x (λ w c. from_filter (λ (y : Order). not (y.place == o.place))
    past.orders w c)
cancel_first past place session id original earlier None x = fewer_first past past.orders x (λ w c. c)

-- ---- a ticket more

-- of another place, session or id, or refused
exact_more : (ps : List PastTicket) (fs : List Fill) (p : PastTicket) (o : Order)
    → (is_refused p.outcome ≡ false → p.place ≢ o.place)
    → (is_refused p.outcome ≡ false → p.session ≡ o.session → p.ticket.id ≡ o.id → ⊥) → IsExact ps fs o
    → IsExact (ps ++ p ∷ []) fs o
exact_more ps fs p o place name x = record {
  counts = x.counts;
  at = λ w c. elim (Contains-push_cases ps p w c) [
    | inl d ↦ x.at w d
    | inr e ↦ subst (λ (y : PastTicket). is_refused y.outcome ≡ false → y.place ≡ o.place → IsTicketOf o y) e
        (λ a m. absurd (place a m))
  ];
  only = λ w c. elim (Contains-push_cases ps p w c) [
    | inl d ↦ x.only w d
    | inr e ↦ subst (λ (y : PastTicket). is_refused y.outcome ≡ false → y.session ≡ o.session → y.ticket.id ≡ o.id
        → y.place ≡ o.place) e (λ a s i. absurd (name a s i))
  ];
}

marked_push : (ps : List PastTicket) (fs : List Fill) (p : PastTicket) → (is_refused p.outcome ≡ false → IsMarked fs p)
    → ((w : PastTicket) → Contains ps w → is_refused w.outcome ≡ false → IsMarked fs w) →
    (w : PastTicket) → Contains (ps ++ p ∷ []) w → is_refused w.outcome ≡ false → IsMarked fs w
marked_push ps fs p own h w c = elim (Contains-push_cases ps p w c)
    [ inl d ↦ h w d | inr e ↦ subst (λ (y : PastTicket). is_refused y.outcome ≡ false → IsMarked fs y) e own ]

new_push : (ps : List PastTicket) (p : PastTicket) → IsOfNew p → ((w : PastTicket) → Contains ps w → IsOfNew w)
    → (w : PastTicket) → Contains (ps ++ p ∷ []) w → IsOfNew w
new_push ps p own h w c = elim (Contains-push_cases ps p w c) [ inl d ↦ h w d | inr e ↦ subst IsOfNew e own ]

refused_first : (past : JournalState) (p : PastTicket) → is_refused p.outcome ≡ true → IsOfNew p → IsFirst past
    → IsFirst (record { orders = past.orders; entered = past.entered ++ p ∷ []; fills = past.fills ++ [] })
refused_first past p r n x =
    let never : is_refused p.outcome ≡ false → ⊥ = λ a. (let no : true ≡ false = sym r ∙ a in cc) in
    subst (λ (fs : List Fill). IsFirst (record { orders = past.orders; entered = past.entered ++ p ∷ []; fills = fs }))
    (sym (append-nil past.fills)) (record {
      exact = λ o c. exact_more past.entered past.fills p o (λ a e. never a) (λ a s i. never a) (x.exact o c);
      marked = marked_push past.entered past.fills p (λ a. absurd (never a)) x.marked;
      new = new_push past.entered p n x.new;
    })

-- ---- an order that is traded

nothing_filled : (done quantity : ℕ) → done ≡ 0 → 0 < quantity → (done == quantity) ≡ false
nothing_filled done quantity e s = grind (arith, nat_tests)

traded_new : (place session : ℕ) (t : Ticket) (immediate : Bool) (left : ℕ)
    → IsOfNew (record {
      place = place;
      session = session;
      original = None;
      ticket = t;
      outcome =
          outcome_of immediate left;
    })
traded_new place session t immediate left = by_test (left == 0) immediate
  where
    by_test : (a b : Bool) → IsOfNew (record {
      place = place;
      session = session;
      original = None;
      ticket = t;
      outcome =
          cond a Filled (cond b (Ended left) Rested);
    })
    by_test true b = record { original = refl; place = refl; refused = refl }
    by_test false true = record { original = refl; place = refl; refused = refl }
    by_test false false = record { original = refl; place = refl; refused = refl }

-- before its first turn
started_exact : (months : ℕ) (past : JournalState) (last place session : ℕ) (t : Ticket) (i : Instrument)
    (outcome : Outcome) → last < place → 0 < t.quantity → find (has_id session t.id) (statuses_of past) ≡ None
    → IsSound months past last → IsFirst past →
    AreExact (past.entered ++ record {
      place = place;
      session = session;
      original = None;
      ticket = t;
      outcome =
          outcome;
    } ∷ []) past.fills (order_of place session t i) past.orders []
started_exact months past last place session t i outcome l some none s x =
    let p : PastTicket = record { place = place; session = session; original = None; ticket = t; outcome = outcome } in
    let n = order_of place session t i in
    let ps = past.entered ++ p ∷ [] in
    let z : filled place past.fills ≡ 0 = filled_none place past.fills
    (λ f c. let b = s.fills_before f c in omega arith) in
    let u = unused past session t.id none s.named s.originals in
    let own : IsExact ps past.fills n = record {
      counts = omega (arith, z);
      at = λ w c a m. elim (Contains-push_cases past.entered p w c) [
        | inl d ↦ let b = s.entered_before w d in absurd (omega (arith, b, m, l))
        | inr e ↦ subst (IsTicketOf n) e (record { session = refl; id = refl; quantity = refl })
      ];
      only = λ w c a m k. elim (Contains-push_cases past.entered p w c) [
        | inl d ↦ absurd (not_named_at past session t.id past.entered w none d m k)
        | inr e ↦ sym (ap (λ (y : PastTicket). y.place) e)
      ];
    } in
    record {
      own = subst (λ (fs : List Fill). IsExact ps fs n) (sym (append-nil past.fills)) own;
      each = λ o c. subst (λ (fs : List Fill). IsExact ps fs o) (sym (append-nil past.fills))
          (exact_more past.entered past.fills p o
          (λ a e. let b = All-contains (λ (w : Order). w.place ≤ last) past.orders o s.orders_before c in
          omega (arith, b, e, l))
          (λ a e k. not_named past session o.session t.id o.id none (s.counted o c).named (sym e) (sym k))
          (x.exact o c));
      marked = subst (λ (fs : List Fill). (w : PastTicket) → Contains ps w → is_refused w.outcome ≡ false
          → IsMarked fs w) (sym (append-nil past.fills))
          (marked_push past.entered past.fills p (λ a. u.filled
          ∙ sym (nothing_filled (filled place past.fills) t.quantity z some)) x.marked);
    }

traded_first : (on : Pairs) (references : List ℤ) (months : ℕ) (past : JournalState) (last place session : ℕ)
    (t : Ticket) (i : Instrument) → last < place → 0 < t.quantity → find (has_id session t.id) (statuses_of past) ≡ None
    → IsSound months past last → IsFirst past →
    IsFirst (record {
      orders = resting t.immediate (clear on references (order_of place session t i) past.orders);
      entered = past.entered ++ record {
        place = place;
        session = session;
        original = None;
        ticket = t;
        outcome =
            outcome_of t.immediate (clear on references (order_of place session t i) past.orders).new.leaves;
      } ∷ [];
      fills = past.fills ++ (clear on references (order_of place session t i) past.orders).fills;
    })
traded_first on references months past last place session t i l some none s x =
    let n = order_of place session t i in
    let d = clear on references n past.orders in
    let outcome = outcome_of t.immediate d.new.leaves in
    let p : PastTicket = record { place = place; session = session; original = None; ticket = t; outcome = outcome } in
    let ps = past.entered ++ p ∷ [] in
    let done : AreExact ps past.fills d.new d.orders d.fills =
    subst (λ (u : Trading). AreExact ps past.fills u.new u.orders u.fills) (sym (clear_is on references n past.orders))
    (exact_turns on references months ps past.fills (length past.orders) (begin n past.orders)
    (started months past last place p n past.orders l (new_asks place session t i outcome) s s.tradable (λ o c. c))
    (started_exact months past last place session t i outcome l some none s x)) in
    record {
      exact = rests_all (IsExact ps (past.fills ++ d.fills)) d t.immediate done.each done.own
          (d.new.leaves == 0 || t.immediate);
      marked = done.marked;
      new = new_push past.entered p (traded_new place session t t.immediate d.new.leaves) x.new;
    }

entered_first : (rules : Rules) (past : JournalState) (last place session : ℕ) (t : Ticket) (r : Result Instrument ℕ)
    → refusal_or_instrument rules t (find (has_id session t.id) (statuses_of past)) (find_symbol rules t.symbol) ≡ r
    → last < place →
    IsSound (month_count rules) past last → IsFirst past
    → IsFirst (with_meaning past place (record { session = session; event = New t })
    (new_means rules past.orders place session t r))
entered_first rules past last place session t (Err reason) e l s x =
    refused_first past (record {
      place = place;
      session = session;
      original = None;
      ticket = t;
      outcome =
          Refused reason;
    }) refl (record { original = refl; place = refl; refused = refl }) x
entered_first rules past last place session t (Ok i) e l s x =
    traded_first (implied rules) (references_of rules) (month_count rules) past last place session t i l
    (taken_is rules t (find (has_id session t.id) (statuses_of past)) i e).some
    (none_earlier rules t (find (has_id session t.id) (statuses_of past)) (find_symbol rules t.symbol) i e) s x

-- ---- any entry

event_first : (rules : Rules) (past : JournalState) (last place session : ℕ) (event : Event) → is_replace event ≡ false
    → last < place → IsSound (month_count rules) past last → IsFirst past →
    IsFirst (with_meaning past place (record { session = session; event = event })
    (meaning_of rules past place (record { session = session; event = event })))
event_first rules past last place session (New t) n l s x = entered_first rules past last place session t _ refl l s x
event_first rules past last place session (Cancel id original) n l s x =
    cancel_first past place session id original (find (has_id session original) (statuses_of past))
    (find (is_own session original) past.orders) x
event_first rules past last place session (Replace original t) n l s x = cc
event_first rules past last place session (Logon client host beat) n l s x = fewer_first past past.orders x (λ o c. c)
event_first rules past last place session (TestReply text) n l s x = fewer_first past past.orders x (λ o c. c)
event_first rules past last place session (Gap first) n l s x = fewer_first past past.orders x (λ o c. c)
event_first rules past last place session (Resend first until) n l s x = fewer_first past past.orders x (λ o c. c)
event_first rules past last place session (Reject number reason) n l s x = fewer_first past past.orders x (λ o c. c)
event_first rules past last place session (Close reason) n l s x = fewer_first past past.orders x (λ o c. c)

pub entry_first : (rules : Rules) (past : JournalState) (last place : ℕ) (e : Entry) → is_replace e.event ≡ false
    → last < place → IsSound (month_count rules) past last → IsFirst past → IsFirst (after_entry rules past place e)
entry_first rules past last place e n l s x = event_first rules past last place e.session e.event n l s x
