-- one entry more: the past stays sound, and what is kept of it stays what it gives
use Rattle.std.proofs.Common.{◌≡◌, ℕ, ◌==◌, ◌<◌, ◌≤◌, ℤ, Bool, true, false, not, ◌||◌, cond, List, [], ◌∷◌, ◌++◌, length, get_or, Contains, All, Option, Some, None, Result, Ok, Err, refl, subst, sym, ap, ◌∙◌, arith, inl, inr, append-nil, filter}
use Rattle.std.specs.List.{sum_by}
use Rattle.std.proofs.lemmas.Bool.Decides.{nat_tests}
use Rattle.std.proofs.lemmas.List.Elements.{All-contains, Contains-push_cases, Contains-append_cases, Contains-append_left, Contains-push, Contains-get_or}
use Rattle.std.specs.List.{find}
use Rattle.spread_rules.specs.declared.order.Order.{Order}
use Rattle.spread_rules_rulebook.specs.declared.instrument.Instrument.{Instrument}
use Rattle.spread_rules.specs.declared.fill.Fill.{Fill}
use Rattle.spread_rules.specs.code.Cases.{keeping_means}
use Rattle.spread_rules.specs.Candidates.{Pairs}
use Rattle.spread_rules.specs.code.Candidates.{HasOrderPrice}
use Rattle.spread_rules.specs.Clearing.{Trading, clear, removed}
use Rattle.spread_rules.specs.code.Clearing.{begin}
use Rattle.spread_rules_rulebook.proofs.lists.Membership.{in_head, in_tail, not_in_nil}
use Rattle.spread_rules.proofs.clearings.ClearIsTurns.{clear_is}
use Rattle.spread_rules.proofs.clearings.TurnsEnd.{from_filter}
use Rattle.spread_rules.specs.declared.outcome.OrderStatus.{OrderStatus}
use Rattle.spread_rules.specs.declared.event.Ticket.{Ticket}
use Rattle.spread_rules.specs.declared.event.Entry.{Entry}
use Rattle.spread_rules.specs.declared.event.Event.{Event}
use Rattle.spread_rules.specs.declared.event.Event.TheVariants.{Logon, New, Cancel, Replace, TestReply, Gap, Resend, Reject, Close}
use Rattle.spread_rules.specs.declared.outcome.Outcome.{Outcome}
use Rattle.spread_rules.specs.declared.outcome.Outcome.TheVariants.{Refused, Replaced}
use Rattle.spread_books_search.specs.Listed.{IsNearFirst, IsInMonths, IsNearBeforeFar}
use Rattle.spread_match_trading.specs.Tradable.{IsTradable}
use Rattle.spread_match_state.specs.Trade.{IsPriced}
use Rattle.spread_match_statuses.specs.code.Statuses.{statuses_after}
use Rattle.spread_match_state.specs.code.StateAfter.{statuses_after_replace, first_status, meaning_in, state_after}
use Rattle.spread_match.specs.Sound.{HasEntry, IsCounted, IsEntryApplied, IsNamed, IsOriginalNamed, IsSound, IsStateOf, KeepsLimit}
use Rattle.spread_match.proofs.entries.FillsCounted.{IsRunning, running}
use Rattle.spread_match_state.proofs.entries.NamedInstrument.{listed_found, near_of, months_of}
use Rattle.spread_rules_rulebook.specs.Prices.{IsOrderPrice}
use Rattle.spread_match_orders.proofs.entries.NewOrder.{tradable_more, clear_all, clear_keeps, taken_is, below_new}
use Rattle.spread_rules.specs.Meaning.{EntryMeaning, cancel_means, filled, has_id, is_own, is_refused, meaning_with, new_means, order_of, replace_means, ticket_of}
use Rattle.spread_rules.specs.code.Meaning.{JournalState, PastTicket, meaning_of, moved_to, original_of, refusal_or_instrument, resting, statuses_of, with_meaning}
use Rattle.spread_rules.specs.Amended.{done, with_quantity}
use Rattle.spread_rules.specs.code.Amended.{amended}
use Rattle.spread_match_orders.proofs.entries.FoundStands.{find_stands}
use Rattle.spread_match_state.proofs.entries.MayRest.{MayRest, moved_rests, removed_tradable}
use Rattle.spread_match_state.proofs.entries.Replaces.{IsOwn, accepted_unused, amended_place, amended_tradable, by_replace, from_amended, none_refused, own_is}
use Rattle.spread_match.proofs.entries.StatusesOfThePast.{statuses_more, unused}
use Rattle.spread_rules_rulebook.specs.Rulebook.{Rules, month_count, references_of, find_symbol, implied}
use Rattle.spread_match_state.specs.State.{MarketState}

-- the past after an entry of that meaning, and what is kept of it
pub record IsKept (months : ℕ) (past : JournalState) (place : ℕ) (e : Entry) (m : EntryMeaning) : Type 0 where
  pub sound : IsSound months (with_meaning past place e m) place
  pub statuses : statuses_of (with_meaning past place e m) ≡ statuses_after m.fills
      (statuses_after_replace e.session m.outcome (original_of e.event)
      (statuses_of past ++ first_status place e.session m.outcome (ticket_of e.event)))

pub later_all : (xs : List Order) (last place : ℕ) → last < place → All (λ o. o.place ≤ last) xs
    → All (λ o. o.place ≤ place) xs
later_all xs last place l h = λ k d lt. let a = h k d lt in omega arith

-- ---- an entry without a ticket, which leaves fewer orders and no fill

fewer : (months : ℕ) (past : JournalState) (last place : ℕ) (ys : List Order) → last < place → IsSound months past last
    → IsTradable months ys → ((o : Order) → Contains ys o → Contains past.orders o) →
    IsSound months (record { orders = ys; entered = past.entered ++ []; fills = past.fills ++ [] }) place
fewer months past last place ys l s t on =
    subst (λ (ps : List PastTicket). IsSound months (record { orders = ys; entered = ps; fills = past.fills ++ [] })
    place) (sym (append-nil past.entered))
    (subst (λ (fs : List Fill). IsSound months (record { orders = ys; entered = past.entered; fills = fs }) place)
    (sym (append-nil past.fills))
    (record {
      tradable = t;
      orders_before = λ k d lt. let a = All-contains (λ (o : Order). o.place ≤ last) past.orders (get_or ys k d)
          s.orders_before (on (get_or ys k d) (Contains-get_or ys k d lt)) in omega arith;
      fills_before = λ f c. let a = s.fills_before f c in omega arith;
      entered_before = λ p c. let a = s.entered_before p c in omega arith;
      counted = λ o c. s.counted o (on o c);
      within = s.within;
      limits = s.limits;
      named = s.named;
      originals = s.originals;
    }))

cancel_sound : (months : ℕ) (past : JournalState) (last place session : ℕ) (id original : List ℕ)
    (earlier : Option OrderStatus) (found : Option Order) → last < place → IsSound months past last →
    IsSound months (with_meaning past place (record { session = session; event = Cancel id original })
    (cancel_means past.orders earlier found)) place
cancel_sound months past last place session id original earlier (Some o) l s =
    fewer months past last place (removed o.place past.orders) l s
    (removed_tradable months o.place past.orders s.tradable)
    (λ w c. from_filter (λ (x : Order). not (x.place == o.place)) past.orders w c)
cancel_sound months past last place session id original earlier None l s =
    fewer months past last place past.orders l s s.tradable (λ w c. c)

-- ---- a ticket more

more_limit : (ps : List PastTicket) (p : PastTicket) (f : Fill) → KeepsLimit ps f → KeepsLimit (ps ++ p ∷ []) f
more_limit ps p f k = record {
  new = k.new;
  entered = Contains-append_left ps (p ∷ []) k.new k.entered;
  at = k.at;
  side = k.side;
  within = k.within;
}

more_named : (ps : List PastTicket) (p : PastTicket) (session : ℕ) (id : List ℕ) → IsNamed ps session id
    → IsNamed (ps ++ p ∷ []) session id
more_named ps p session id n = record {
  new = n.new;
  entered = Contains-append_left ps (p ∷ []) n.new n.entered;
  session_is = n.session_is;
  id_is = n.id_is;
}

more_entry : (ps : List PastTicket) (p : PastTicket) (o : Order) → HasEntry ps o → HasEntry (ps ++ p ∷ []) o
more_entry ps p o w = record {
  new = w.new;
  entered = Contains-append_left ps (p ∷ []) w.new w.entered;
  at = w.at;
  side = w.side;
  price = w.price;
}

pub counted_more : (ps : List PastTicket) (fs : List Fill) (p : PastTicket) (o : Order) → IsCounted ps fs o
    → IsCounted (ps ++ p ∷ []) fs o
counted_more ps fs p o c = record {
  counts = c.counts;
  totals = c.totals;
  entry = more_entry ps p o c.entry;
  named =
      more_named ps p o.session o.id c.named;
}

entered_more : (ps : List PastTicket) (p : PastTicket) (last place : ℕ) → last < place → p.place ≡ place
    → ((w : PastTicket) → Contains ps w → w.place ≤ last) → (w : PastTicket) → Contains (ps ++ p ∷ []) w
    → w.place ≤ place
entered_more ps p last place l e h = λ w c. elim (Contains-push_cases ps p w c) [
  | inl k ↦ let a = h w k in omega arith
  | inr q ↦ let f : p.place ≡ w.place = ap (λ (x : PastTicket). x.place) q in
      omega arith
]

originals_more : (ps : List PastTicket) (p : PastTicket) → IsOriginalNamed ps p
    → ((w : PastTicket) → Contains ps w → IsOriginalNamed ps w) → (w : PastTicket) → Contains (ps ++ p ∷ []) w
    → IsOriginalNamed (ps ++ p ∷ []) w
originals_more ps p own h = λ w c. elim (Contains-push_cases ps p w c) [
  | inl k ↦ λ original e a. more_named ps p w.session original (h w k original e a)
  | inr q ↦ subst (IsOriginalNamed (ps ++ p ∷ [])) q
      (λ original e a. more_named ps p p.session original (own original e a))
]

-- an entry with a ticket that fills nothing, and what rests then
ticket_sound : (months : ℕ) (past : JournalState) (last place : ℕ) (p : PastTicket) (ys : List Order) → last < place
    → p.place ≡ place → IsSound months past last → IsOriginalNamed past.entered p →
    IsTradable months ys → All (λ o. o.place ≤ last) ys
    → ((o : Order) → Contains ys o → IsCounted (past.entered ++ p ∷ []) past.fills o) →
    IsSound months (record { orders = ys; entered = past.entered ++ p ∷ []; fills = past.fills ++ [] }) place
ticket_sound months past last place p ys l e s n t b c =
    subst (λ (fs : List Fill). IsSound months (record { orders = ys; entered = past.entered ++ p ∷ []; fills = fs })
    place) (sym (append-nil past.fills)) (record {
      tradable = t;
      orders_before = later_all ys last place l b;
      fills_before = λ f k. let a = s.fills_before f k in omega arith;
      entered_before = entered_more past.entered p last place l e s.entered_before;
      counted = c;
      within = s.within;
      limits = λ f k. more_limit past.entered p f (s.limits f k);
      named = λ f k. more_named past.entered p f.session f.id (s.named f k);
      originals = originals_more past.entered p n s.originals;
    })

refused_sound : (months : ℕ) (past : JournalState) (last place : ℕ) (p : PastTicket) → last < place → p.place ≡ place
    → is_refused p.outcome ≡ true → IsSound months past last →
    IsSound months (record { orders = past.orders; entered = past.entered ++ p ∷ []; fills = past.fills ++ [] }) place
refused_sound months past last place p l e r s =
    ticket_sound months past last place p past.orders l e s (λ original f a. let no : true ≡ false = sym r ∙ a in cc)
    s.tradable s.orders_before (λ o c. counted_more past.entered past.fills p o (s.counted o c))

-- ---- an order that is traded

pub filled_none : (place : ℕ) (fs : List Fill) → ((f : Fill) → Contains fs f → f.order < place) → filled place fs ≡ 0
filled_none place [] h = refl
filled_none place (f ∷ fs) h =
    let a = h f (in_head f fs) in
    let e : (f.order == place) ≡ false = grind (arith, nat_tests) in
    let others = filter (λ (g : Fill). g.order == place) fs in
    ap (λ (b : Bool). sum_by (λ (g : Fill). g.quantity) (cond b (f ∷ others) others)) e
    ∙ filled_none place fs (λ g c. h g (in_tail f fs g c))

-- a ticket of that place asks for that order, of which no more is left than it has
pub record AsksFor (place : ℕ) (p : PastTicket) (n : Order) : Type 0 where
  pub asked : p.place ≡ place
  pub placed : n.place ≡ place
  pub session : p.session ≡ n.session
  pub id : p.ticket.id ≡ n.id
  pub side : p.ticket.side ≡ n.side
  pub price : p.ticket.price ≡ n.price
  pub left : n.leaves ≤ n.quantity

-- the new order, at its entry
own_counted : (past : JournalState) (last place : ℕ) (p : PastTicket) (n : Order) → last < place → AsksFor place p n
    → ((f : Fill) → Contains past.fills f → f.order ≤ last) →
    IsCounted (past.entered ++ p ∷ []) past.fills n
own_counted past last place p n l a hf =
    let at = a.placed in
    let z = filled_none n.place past.fills (λ f c. let b = hf f c in omega arith) in
    let left = a.left in
    record {
      counts = omega (arith, z, left);
      totals = λ f c m. let b = hf f c in absurd (omega arith);
      entry = record {
        new = p;
        entered = Contains-push past.entered p;
        at = a.asked ∙ sym at;
        side = a.side;
        price =
            a.price;
      };
      named = record { new = p; entered = Contains-push past.entered p; session_is = a.session; id_is = a.id };
    }

-- before its first turn, with some of the orders that rest
pub started : (months : ℕ) (past : JournalState) (last place : ℕ) (p : PastTicket) (n : Order) (xs : List Order)
    → last < place → AsksFor place p n → IsSound months past last →
    IsTradable months xs → ((o : Order) → Contains xs o → Contains past.orders o) →
    IsRunning months (past.entered ++ p ∷ []) past.fills (begin n xs)
started months past last place p n xs l a s t on =
    let ps = past.entered ++ p ∷ [] in
    let at = a.placed in
    record {
      tradable = t;
      counted = record {
        own = subst (λ (fs : List Fill). IsCounted ps fs n) (sym (append-nil past.fills))
            (own_counted past last place p n l a s.fills_before);
        each = λ o c. subst (λ (fs : List Fill). IsCounted ps fs o) (sym (append-nil past.fills))
            (counted_more past.entered past.fills p o (s.counted o (on o c)));
        apart = λ o c. let b = All-contains (λ (w : Order). w.place ≤ last) past.orders o s.orders_before (on o c) in
            omega arith;
        before = λ f c. absurd (not_in_nil f c);
        differ = t.places;
        within = subst (λ (fs : List Fill). (f : Fill) → Contains fs f → filled f.order fs ≤ f.total)
            (sym (append-nil past.fills)) s.within;
        limits = subst (λ (fs : List Fill). (f : Fill) → Contains fs f → KeepsLimit ps f) (sym (append-nil past.fills))
            (λ f c. more_limit past.entered p f (s.limits f c));
        named = subst (λ (fs : List Fill). (f : Fill) → Contains fs f → IsNamed ps f.session f.id)
            (sym (append-nil past.fills)) (λ f c. more_named past.entered p f.session f.id (s.named f c));
      };
    }

-- what rests after a clearing
pub rests_all : (P : Order → Type 0) (t : Trading) (immediate : Bool) → ((o : Order) → Contains t.orders o → P o)
    → P t.new → (b : Bool) → (o : Order) → Contains (cond b t.orders (t.orders ++ t.new ∷ [])) o → P o
rests_all P t immediate h n true = h
rests_all P t immediate h n false = λ o c. elim (Contains-push_cases t.orders t.new o c)
    [ inl d ↦ h o d | inr e ↦ subst P e n ]

pub rest_tradable : (months : ℕ) (t : Trading) (immediate a : Bool) → (t.new.leaves == 0) ≡ a
    → IsTradable months t.orders → All (λ o. o.place < t.new.place) t.orders → HasOrderPrice t.new → IsNearFirst t.new
    → IsInMonths months t.new.instrument →
    IsTradable months (cond (a || immediate) t.orders (t.orders ++ t.new ∷ []))
rest_tradable months t immediate true e tr h small listed within = tr
rest_tradable months t true false e tr h small listed within = tr
rest_tradable months t false false e tr h small listed within =
    tradable_more months t.orders t.new tr h small listed within (grind (arith, nat_tests))

-- an entry with a ticket whose order is traded with some of those that rest
cleared_sound : (pairs : Pairs) (references : List ℤ) (months : ℕ) (past : JournalState) (last place : ℕ)
    (p : PastTicket) (n : Order) (xs : List Order) (immediate : Bool) → last < place → AsksFor place p n
    → MayRest months n → IsSound months past last →
    IsOriginalNamed past.entered p → IsTradable months xs → ((o : Order) → Contains xs o → Contains past.orders o) →
    IsSound months (record {
      orders = resting immediate (clear pairs references n xs);
      entered = past.entered
          ++ p ∷ [];
      fills = past.fills ++ (clear pairs references n xs).fills;
    }) place
cleared_sound pairs references months past last place p n xs immediate l a r s own tr on =
    let d = clear pairs references n xs in
    let ps = past.entered ++ p ∷ [] in
    let run : IsRunning months ps past.fills d = subst (IsRunning months ps past.fills)
    (sym (clear_is pairs references n xs)) (running pairs references months ps past.fills (length xs) (begin n xs)
    (started months past last place p n xs l a s tr on)) in
    let earlier : All (λ o. o.place ≤ last) xs = λ k d lt. All-contains (λ (o : Order). o.place ≤ last) past.orders
    (get_or xs k d) s.orders_before (on (get_or xs k d) (Contains-get_or xs k d lt)) in
    let below : All (λ o. o.place < place) d.orders = clear_all pairs (λ (o : Order). o.place < place) (λ o k h. h)
    references n xs (below_new xs last place earlier l) in
    let new : d.new ≡ record n { leaves = d.new.leaves } = clear_keeps pairs references n xs in
    let at : place ≡ d.new.place = sym a.placed ∙ sym (ap (λ (o : Order). o.place) new) in
    record {
      tradable = rest_tradable months d immediate (d.new.leaves == 0) refl run.tradable
          (subst (λ (k : ℕ). All (λ (o : Order). o.place < k) d.orders) at below)
          (subst HasOrderPrice (sym new) (let k = r.small in record { low = k.low; high = k.high }))
          (subst IsNearFirst (sym new) (let k = r.listed in record { near_before_far = k.near_before_far }))
          (subst (λ (o : Order). IsInMonths months o.instrument) (sym new) r.within);
      orders_before = λ k e lt. rests_all (λ (o : Order). o.place ≤ place) d immediate
          (λ o c. let b = All-contains (λ (w : Order). w.place < place) d.orders o below c in omega arith) (omega arith)
          (d.new.leaves == 0 || immediate)
          (get_or (resting immediate d) k e) (Contains-get_or (resting immediate d) k e lt);
      fills_before = λ f c. elim (Contains-append_cases past.fills d.fills f c) [
        | inl k ↦ let b = s.fills_before f k in omega arith
        | inr k ↦ let b = run.counted.before f k in omega arith
      ];
      entered_before = entered_more past.entered p last place l a.asked s.entered_before;
      counted = rests_all (IsCounted ps (past.fills ++ d.fills)) d immediate run.counted.each run.counted.own
          (d.new.leaves == 0 || immediate);
      within = run.counted.within;
      limits = run.counted.limits;
      named = run.counted.named;
      originals = originals_more past.entered p own s.originals;
    }

-- ---- a New entry

pub new_asks : (place session : ℕ) (t : Ticket) (i : Instrument) (outcome : Outcome)
    → AsksFor place (record { place = place; session = session; original = None; ticket = t; outcome = outcome })
    (order_of place session t i)
new_asks place session t i outcome = record {
  asked = refl;
  placed = refl;
  session = refl;
  id = refl;
  side = refl;
  price = refl;
  left = omega arith;
}

pub new_rests : (months place session : ℕ) (t : Ticket) (i : Instrument) → IsOrderPrice t.price → IsNearBeforeFar i
    → IsInMonths months i → MayRest months (order_of place session t i)
new_rests months place session t i small listed within =
    record {
      small = record { low = small.low; high = small.high };
      listed = record { near_before_far = listed };
      within = within;
    }

new_sound : (rules : Rules) (past : JournalState) (last place session : ℕ) (t : Ticket) (earlier : Option OrderStatus)
    (r : Result Instrument ℕ) → refusal_or_instrument rules t earlier (find_symbol rules t.symbol) ≡ r → last < place →
    IsSound (month_count rules) past last → IsOrderPrice t.price →
    IsSound (month_count rules) (with_meaning past place (record { session = session; event = New t })
    (new_means rules past.orders place session t r)) place
new_sound rules past last place session t earlier (Err reason) e l s k =
    refused_sound (month_count rules) past last place (record
    { place = place; session = session; original = None; ticket = t; outcome = Refused reason }) l refl refl s
new_sound rules past last place session t earlier (Ok i) e l s k =
    let w = taken_is rules t earlier i e in
    let listed = listed_found rules t.symbol i w.names in
    cleared_sound (implied rules) (references_of rules) (month_count rules) past last place _
    (order_of place session t i) past.orders t.immediate l
    (new_asks place session t i _) (new_rests (month_count rules) place session t i k (near_of rules i listed)
    (months_of rules i listed)) s (λ original f a. cc) s.tradable (λ o c. c)

-- ---- a Replace entry

-- the order that is named, whose id is that of an earlier entry
named_original : (past : JournalState) (session : ℕ) (original : List ℕ) (p : PastTicket) (o : Order) (months last : ℕ)
    → IsSound months past last → Contains past.orders o → IsOwn session original o → p.session ≡ session →
    p.original ≡ Some original → IsOriginalNamed past.entered p
named_original past session original p o months last s stands own e f = λ id g a.
    let w = (s.counted o stands).named in
    let same : original ≡ id = (let k : ◌≡◌ {A = Option (List ℕ)} (Some original) (Some id) = sym f ∙ g in cc) in
    record {
      new = w.new;
      entered = w.entered;
      session_is = w.session_is ∙ (own.session_is ∙ sym e);
      id_is = w.id_is
          ∙ (own.id_is ∙ same);
    }

-- the amended order is counted as it was, and named by the request
amended_counted : (ps : List PastTicket) (fs : List Fill) (p : PastTicket) (r : Order) (quantity : ℕ)
    → p.session ≡ r.session → IsCounted ps fs r → done r < quantity → quantity ≤ r.quantity →
    IsCounted (ps ++ p ∷ []) fs (with_quantity p.ticket.id quantity r)
amended_counted ps fs p r quantity e c more most =
    let k = c.counts in
    record {
      counts = omega (arith, k, more, most);
      totals = λ f d m. let a = c.totals f d m in omega (arith, a, most);
      entry = let w = more_entry ps p r c.entry in record
          { new = w.new; entered = w.entered; at = w.at; side = w.side; price = w.price };
      named = record { new = p; entered = Contains-push ps p; session_is = e; id_is = refl };
    }

keeping_sound : (months : ℕ) (past : JournalState) (last place session : ℕ) (original : List ℕ) (t : Ticket) (r : Order)
    → last < place → IsSound months past last → Contains past.orders r → IsOwn session original r →
    done r < t.quantity → t.quantity ≤ r.quantity →
    IsSound months (with_meaning past place (record { session = session; event = Replace original t })
    (keeping_means past.orders t r)) place
keeping_sound months past last place session original t r l s stands own more most =
    let p : PastTicket = record {
      place = place;
      session = session;
      original = Some original;
      ticket = t;
      outcome =
          Replaced (with_quantity t.id t.quantity r);
    } in
    let ys = amended r.place t.id t.quantity past.orders in
    ticket_sound months past last place p ys l refl s (named_original past session original p r months last s stands own
    refl refl) (amended_tradable months past.orders r t.id t.quantity s.tradable stands more)
    (λ k d lt.
    let o = get_or ys k d in
    let a = from_amended past.orders r.place t.id t.quantity o (Contains-get_or ys k d lt) in
    subst (λ (n : ℕ). n ≤ last) (amended_place past.orders r.place t.id t.quantity o a)
    (All-contains (λ (w : Order). w.place ≤ last) past.orders a.was s.orders_before a.stands))
    (λ o c.
    let a = from_amended past.orders r.place t.id t.quantity o c in
    elim a.is [
      | inl e ↦
          let same : a.was ≡ r = s.tradable.places a.was r a.stands stands e.0 in
          subst (IsCounted (past.entered ++ p ∷ []) past.fills) (sym (ap (with_quantity t.id t.quantity) same) ∙ e.1)
          (amended_counted past.entered past.fills p r t.quantity (sym own.session_is) (s.counted r stands) more
          most)
      | inr e ↦ counted_more past.entered past.fills p o
          (subst (IsCounted past.entered past.fills) e.1 (s.counted a.was a.stands))
    ])

pub moved_asks : (place session : ℕ) (original : List ℕ) (t : Ticket) (r : Order) (outcome : Outcome)
    → r.session ≡ session → t.side ≡ r.side →
    AsksFor place (record { place = place; session = session; original = Some original; ticket = t; outcome = outcome })
    (moved_to place t r)
moved_asks place session original t r outcome own side =
    record { asked = refl; placed = refl; session = sym own; id = refl; side = side; price = refl; left = omega arith }

replace_sound : (rules : Rules) (past : JournalState) (last place session : ℕ) (original : List ℕ) (t : Ticket)
    (r : Result Instrument ℕ) (earlier : Option OrderStatus) (found : Option Order) →
    find (is_own session original) past.orders ≡ found → last < place → IsSound (month_count rules) past last
    → IsOrderPrice t.price →
    IsSound (month_count rules) (with_meaning past place (record { session = session; event = Replace original t })
    (replace_means rules past.orders place t r earlier found)) place
replace_sound rules past last place session original t r earlier None e l s k =
    refused_sound (month_count rules) past last place _ l refl (none_refused earlier) s
replace_sound rules past last place session original t r earlier (Some o) e l s k =
    let stands : Contains past.orders o = find_stands (is_own session original) past.orders o e in
    let own = own_is past.orders session original o e in
    by_replace (λ (m : EntryMeaning). IsSound (month_count rules)
    (with_meaning past place (record { session = session; event = Replace original t }) m) place) rules past.orders
    place t r o
    (λ reason. refused_sound (month_count rules) past last place _ l refl refl s)
    (λ a b. keeping_sound (month_count rules) past last place session original t o l s stands own a.more b.most)
    (λ a. cleared_sound (implied rules) (references_of rules) (month_count rules) past last place
    (record {
      place = place;
      session = session;
      original = Some original;
      ticket = t;
      outcome =
          Replaced (moved_to place t o);
    }) (moved_to place t o) (removed o.place past.orders) false l
    (moved_asks place session original t o _ own.session_is a.side)
    (moved_rests (month_count rules) place past.orders t o s.tradable stands k) s
    (named_original past session original (record {
      place = place;
      session = session;
      original = Some original;
      ticket =
          t;
      outcome = Replaced (moved_to place t o);
    }) o (month_count rules) last s stands own refl refl)
    (removed_tradable (month_count rules) o.place past.orders s.tradable)
    (λ w c. from_filter (λ (x : Order). not (x.place == o.place)) past.orders w c))

-- ---- any entry

event_sound : (rules : Rules) (past : JournalState) (last place session : ℕ) (event : Event) → last < place
    → IsSound (month_count rules) past last → IsPriced event →
    IsSound (month_count rules) (with_meaning past place (record { session = session; event = event })
    (meaning_of rules past place (record { session = session; event = event }))) place
event_sound rules past last place session (New t) l s k =
    new_sound rules past last place session t (find (has_id session t.id) (statuses_of past)) _ refl l s k
event_sound rules past last place session (Cancel id original) l s k =
    cancel_sound (month_count rules) past last place session id original
    (find (has_id session original) (statuses_of past)) (find (is_own session original) past.orders) l s
event_sound rules past last place session (Replace original t) l s k =
    replace_sound rules past last place session original t _ (find (has_id session original) (statuses_of past))
    (find (is_own session original) past.orders) refl l s k
event_sound rules past last place session (Logon client host beat) l s k =
    fewer (month_count rules) past last place past.orders l s s.tradable (λ w c. c)
event_sound rules past last place session (TestReply text) l s k =
    fewer (month_count rules) past last place past.orders l s s.tradable (λ w c. c)
event_sound rules past last place session (Gap first) l s k =
    fewer (month_count rules) past last place past.orders l s s.tradable (λ w c. c)
event_sound rules past last place session (Resend first until) l s k =
    fewer (month_count rules) past last place past.orders l s s.tradable (λ w c. c)
event_sound rules past last place session (Reject number reason) l s k =
    fewer (month_count rules) past last place past.orders l s s.tradable (λ w c. c)
event_sound rules past last place session (Close reason) l s k =
    fewer (month_count rules) past last place past.orders l s s.tradable (λ w c. c)

pub entry_kept : (rules : Rules) (past : JournalState) (last place : ℕ) (e : Entry) → last < place
    → IsSound (month_count rules) past last → IsPriced e.event
    → IsKept (month_count rules) past place e (meaning_of rules past place e)
entry_kept rules past last place e l s k = record {
  sound = event_sound rules past last place e.session e.event l s k;
  statuses = statuses_more past place e (meaning_of rules past place e)
      (λ t asks a. unused past e.session t.id (accepted_unused rules past place e.session e.event t asks a) s.named
      s.originals);
}

-- what the market does is what the entry means
pub worked : (rules : Rules) (m : MarketState) (past : JournalState) (place : ℕ) (e : Entry) (outcome : Outcome)
    (fills made : List Fill) (after : MarketState) →
    IsStateOf rules m past → m.last < place → IsPriced e.event →
    outcome ≡ (meaning_in rules m place e.session e.event).outcome → made ≡ fills
    ++ (meaning_in rules m place e.session e.event).fills → after ≡ state_after rules m place e.session e.event →
    IsEntryApplied rules past place e outcome fills made after
worked rules m past place e outcome fills made after r l k o f a =
    let same : meaning_in rules m place e.session e.event ≡ meaning_of rules past place e =
    ap (λ (xs : List Order). meaning_with rules xs m.statuses place e.session e.event) r.orders
    ∙ ap (λ (ss : List OrderStatus). meaning_with rules past.orders ss place e.session e.event) r.statuses in
    let kept = entry_kept rules past m.last place e l r.sound k in
    let last : after.last ≡ place = ap (λ (x : MarketState). x.last) a in
    record {
      outcome_is = o ∙ ap (λ (x : EntryMeaning). x.outcome) same;
      fills_is = f ∙ ap (λ (x : EntryMeaning). fills ++ x.fills) same;
      reads = record {
        orders = ap (λ (x : MarketState). x.orders) a ∙ ap (λ (x : EntryMeaning). x.orders) same;
        statuses = ap (λ (x : MarketState). x.statuses) a
            ∙ (ap (λ (x : EntryMeaning). statuses_after x.fills
            (statuses_after_replace e.session x.outcome (original_of e.event)
            (m.statuses ++ first_status place e.session x.outcome (ticket_of e.event)))) same
            ∙ (ap (λ (ss : List OrderStatus). statuses_after (meaning_of rules past place e).fills
            (statuses_after_replace e.session (meaning_of rules past place e).outcome (original_of e.event)
            (ss ++ first_status place e.session (meaning_of rules past place e).outcome (ticket_of e.event))))
            r.statuses
            ∙ sym kept.statuses));
        sound = subst (IsSound (month_count rules) (with_meaning past place e (meaning_of rules past place e)))
            (sym last) kept.sound;
      };
      last = last;
    }
