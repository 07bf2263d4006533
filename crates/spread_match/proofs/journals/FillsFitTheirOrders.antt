-- each fill of a journal is of an order of the rulebook, and keeps the ranges of quantities and prices
use Rattle.std.proofs.Common.{◌≡◌, ℕ, zero, suc, ◌<◌, ◌≤◌, ◌+◌, ◌==◌, nat_lt, ℤ, pos, neg_ℤ, ◌≤ℤ◌, ◌+ℤ◌, ◌-ℤ◌, Bool, true, false, cond, not, ◌||◌, List, [], ◌∷◌, ◌++◌, length, get_or, Contains, All, Option, Some, None, Result, Ok, Err, refl, subst, sym, arith, inl, inr}
use Rattle.std.proofs.lemmas.Int.{ints}
use Rattle.std.proofs.lemmas.List.Elements.{All-contains, All-filter, Contains-append_cases, Contains-get_or}
use Rattle.std.specs.List.{find}
use Rattle.spread_rules.specs.declared.order.Side.{Side}
use Rattle.spread_rules.specs.declared.order.Side.TheVariants.{Buy, Sell}
use Rattle.spread_rules.specs.declared.order.Order.{Order}
use Rattle.spread_rules_rulebook.specs.declared.instrument.Instrument.{Instrument}
use Rattle.spread_rules_rulebook.specs.declared.instrument.Instrument.TheVariants.{Outright, Spread}
use Rattle.spread_rules.specs.declared.fill.Fill.{Fill}
use Rattle.spread_rules.specs.declared.candidate.Candidate.{Candidate}
use Rattle.spread_rules.specs.declared.candidate.Counterparty.{Counterparty}
use Rattle.spread_rules.specs.declared.candidate.Counterparty.TheVariants.{Direct, Implied}
use Rattle.spread_rules.specs.declared.event.Entry.{Entry}
use Rattle.spread_rules.specs.declared.event.Event.{Event}
use Rattle.spread_rules.specs.declared.event.Event.TheVariants.{Logon, New, Cancel, Replace, TestReply, Gap, Resend, Reject, Close}
use Rattle.spread_rules.specs.declared.event.Ticket.{Ticket}
use Rattle.spread_rules.specs.declared.outcome.OrderStatus.{OrderStatus}
use Rattle.spread_rules.specs.code.Cases.{leg_prices_of_single, leg_prices_of_pair}
use Rattle.spread_rules.specs.Candidates.{price_of, least_left, AllStandIn}
use Rattle.spread_rules.specs.code.Candidates.{implied_price}
use Rattle.spread_rules_rulebook.specs.Instruments.{month_of}
use Rattle.spread_rules_rulebook.specs.Prices.{IsLegPrice, IsOrderPrice}
use Rattle.spread_rules.specs.Clearing.{Trading, clear, removed, fills_of, fill_of, leg_prices, leg_prices_of_fill}
use Rattle.spread_rules.specs.code.Clearing.{next_candidate, turn, turns, after_match, begin}
use Rattle.spread_rules.specs.Meaning.{EntryMeaning, cancel_means, has_id, is_own, new_means, order_of, replace_means}
use Rattle.spread_rules.specs.code.Meaning.{JournalState, PastTicket, after_entries, after_entry, meaning_of, meaning_of_journal, moved_to, no_entries, refusal_or_instrument, resting, statuses_of}
use Rattle.spread_rules_rulebook.specs.Rulebook.{Rules, IsRules, IsListed, month_count, references_of, find_symbol, implied}
use Rattle.spread_rules_rulebook.proofs.lists.Membership.{in_cons_cases, in_head, in_tail, not_in_nil}
use Rattle.spread_rules.proofs.clearings.ClearIsTurns.{clear_is}
use Rattle.spread_rules.proofs.clearings.TurnsEnd.{members_rest, next_meets, from_filter}
use Rattle.spread_rules.proofs.clearings.BoughtIsSold.{legs_of_pair, legs_of_single, so_is}
use Rattle.spread_rules.proofs.ranks.PairsSwitched.{priced}
use Rattle.spread_match.specs.Sound.{IsSound, IsCounted, IsFillWithinLimits}
use Rattle.spread_match_state.specs.Trade.{IsPriced, ArePriced}
use Rattle.spread_match_trading.specs.Tradable.{IsTradable}
use Rattle.spread_match.proofs.entries.FillsCounted.{IsRunning, running_with}
use Rattle.spread_match_orders.proofs.entries.NewOrder.{taken_is, traded_all}
use Rattle.spread_rules_rulebook.proofs.rulebook_texts.OrderPrices.{small_references}
use Rattle.spread_match_state.proofs.entries.NamedInstrument.{listed_found}
use Rattle.spread_match.proofs.entries.PastStaysSound.{AsksFor, started, entry_kept, moved_asks, new_asks, rests_all}
use Rattle.spread_match_state.proofs.entries.MayRest.{removed_tradable}
use Rattle.spread_match_orders.proofs.entries.FoundStands.{find_stands}
use Rattle.spread_match_state.proofs.entries.Replaces.{all_amended, by_replace, own_is}
use Rattle.spread_rules.specs.code.Amended.{amended}
use Rattle.spread_rules.specs.declared.outcome.Outcome.TheVariants.{Rested}
use Rattle.spread_match.proofs.journals.AfterEveryEntry.{none_sound}

-- ---- prices

record AreFit (legs : ℤ × ℤ) : Type 0 where
  pub near : IsLegPrice legs.0
  pub far : IsLegPrice legs.1

wider : (z : ℤ) → neg_ℤ (pos 1000000000) ≤ℤ z → z ≤ℤ pos 1000000000 → IsLegPrice z
wider z l h = record { low = omega (arith, ints); high = omega (arith, ints) }

summed : (x y p : ℤ) → neg_ℤ (pos 1000000000) ≤ℤ x → x ≤ℤ pos 1000000000 → neg_ℤ (pos 1000000000) ≤ℤ y
    → y ≤ℤ pos 1000000000 → (x +ℤ y) ≡ p → IsLegPrice p
summed x y p a b c d e = record { low = omega (arith, ints); high = omega (arith, ints) }

less : (x y p : ℤ) → neg_ℤ (pos 1000000000) ≤ℤ x → x ≤ℤ pos 1000000000 → neg_ℤ (pos 1000000000) ≤ℤ y
    → y ≤ℤ pos 1000000000 → (x -ℤ y) ≡ p → IsLegPrice p
less x y p a b c d e = record { low = omega (arith, ints); high = omega (arith, ints) }

implied_fits : (s : Side) (I : Instrument) (sa : Side) (A : Instrument) (sb : Side) (B : Instrument) (x y p : ℤ)
    → neg_ℤ (pos 1000000000) ≤ℤ x → x ≤ℤ pos 1000000000 → neg_ℤ (pos 1000000000) ≤ℤ y → y ≤ℤ pos 1000000000
    → implied_price s I sa A sb B x y ≡ Some p → IsLegPrice p
implied_fits Buy (Outright m) Sell (Spread i j) Sell (Outright k) x y p a b c d h = summed x y p a b c d (so_is _ _ p h)
implied_fits Sell (Outright m) Buy (Spread i j) Buy (Outright k) x y p a b c d h = summed x y p a b c d (so_is _ _ p h)
implied_fits Buy (Outright m) Buy (Spread i j) Sell (Outright k) x y p a b c d h = less y x p c d a b (so_is _ _ p h)
implied_fits Sell (Outright m) Sell (Spread i j) Buy (Outright k) x y p a b c d h = less y x p c d a b (so_is _ _ p h)
implied_fits Buy (Spread i j) Sell (Outright k) Buy (Outright l) x y p a b c d h = less x y p a b c d (so_is _ _ p h)
implied_fits Sell (Spread i j) Buy (Outright k) Sell (Outright l) x y p a b c d h = less x y p a b c d (so_is _ _ p h)
implied_fits _ (Outright m) _ (Outright n) _ (Outright k) x y p a b c d h = cc
implied_fits _ (Outright m) _ (Outright n) _ (Spread k l) x y p a b c d h = cc
implied_fits _ (Outright m) _ (Spread w z) _ (Outright k) x y p a b c d h = cc
implied_fits _ (Outright m) _ (Spread w z) _ (Spread k l) x y p a b c d h = cc
implied_fits _ (Spread i j) _ (Outright n) _ (Outright k) x y p a b c d h = cc
implied_fits _ (Spread i j) _ (Outright n) _ (Spread k l) x y p a b c d h = cc
implied_fits _ (Spread i j) _ (Spread w z) _ (Outright k) x y p a b c d h = cc
implied_fits _ (Spread i j) _ (Spread w z) _ (Spread k l) x y p a b c d h = cc

reference_small : (rs : List ℤ) (i : ℕ) → ((z : ℤ) → Contains rs z → IsOrderPrice z)
    → IsOrderPrice (get_or rs i (pos 0))
reference_small [] i h = record { low = omega (arith, ints); high = omega (arith, ints) }
reference_small (r ∷ rs) zero h = h r (in_head r rs)
reference_small (r ∷ rs) (suc i) h = reference_small rs i (λ z c. h z (in_tail r rs z c))

one_fits : (rs : List ℤ) (I : Instrument) (p : ℤ) → ((z : ℤ) → Contains rs z → IsOrderPrice z)
    → neg_ℤ (pos 1000000000) ≤ℤ p → p ≤ℤ pos 1000000000 → AreFit (leg_prices_of_single rs I p)
one_fits rs (Outright m) p h l u = record { near = wider p l u; far = wider p l u }
one_fits rs (Spread i j) p h l u =
    let r = reference_small rs i h in
    record {
      near = wider (get_or rs i (pos 0)) r.low r.high;
      far =
          less (get_or rs i (pos 0)) p (get_or rs i (pos 0) -ℤ p) r.low r.high l u refl;
    }

either_fits : (b : Bool) (p y : ℤ) → IsLegPrice p → IsLegPrice y → AreFit (cond b (p, y) (y, p))
either_fits true p y h k = record { near = h; far = k }
either_fits false p y h k = record { near = k; far = h }

two_fits : (I B : Instrument) (p x y : ℤ) → IsLegPrice p → IsLegPrice x → IsLegPrice y
    → AreFit (leg_prices_of_pair I B p x y)
two_fits (Spread i j) B p x y h k l = record { near = k; far = l }
two_fits (Outright m) B p x y h k l = either_fits (nat_lt m (month_of B)) p y h l

own_fits : (I : Instrument) (p : ℤ) (legs : ℤ × ℤ) → IsLegPrice p → AreFit legs → AreFit (leg_prices_of_fill I p legs)
own_fits (Outright m) p legs h k = record { near = h; far = h }
own_fits (Spread i j) p legs h k = k

-- ---- a turn

pub record FitsOrder (rules : Rules) (o : Order) : Type 0 where
  pub quantity : o.quantity ≤ 999999
  pub low : neg_ℤ (pos 1000000000) ≤ℤ o.price
  pub high : o.price ≤ℤ pos 1000000000
  pub listed : IsListed rules o.instrument

fill_fits : (rules : Rules) (at q : ℕ) (o : Order) (price : ℤ) (legs : ℤ × ℤ) → FitsOrder rules o → q ≤ o.leaves
    → o.leaves ≤ o.quantity → IsLegPrice price → AreFit legs → IsFillWithinLimits rules (fill_of at q legs o price)
fill_fits rules at q o price legs k a b s l =
    let g = own_fits o.instrument price legs s l in
    let m = k.quantity in
    record {
      quantity = omega arith;
      total = m;
      leaves = omega arith;
      listed = k.listed;
      price = s;
      near = g.near;
      far =
          g.far;
    }

turn_fits : (rules : Rules) (n : Order) (p : Counterparty) (price : ℤ) → IsRules rules → FitsOrder rules n
    → n.leaves ≤ n.quantity → price_of (implied rules) n p ≡ Some price → (xs : List Order) → AllStandIn xs p
    → ((o : Order) → Contains xs o → FitsOrder rules o) → ((o : Order) → Contains xs o → o.leaves ≤ o.quantity) →
    (f : Fill) → Contains (fills_of (references_of rules) n (record { price = price; counterparty = p })) f
    → IsFillWithinLimits rules f
turn_fits rules n (Direct a) price lawful own less_own meets xs stands fits less_each f c =
    let k = fits a stands in
    let w = less_each a stands in
    let e : a.price ≡ price = so_is _ _ price meets in
    let s = wider a.price k.low k.high in
    let small : IsLegPrice price = subst IsLegPrice e s in
    let refs : (z : ℤ) → Contains (references_of rules) z
    → IsOrderPrice z = λ z d. All-contains IsOrderPrice (references_of rules) z (small_references rules lawful) d in
    let legs = leg_prices (references_of rules) n.instrument price (Direct a) in
    let l : AreFit legs = subst AreFit (legs_of_single (references_of rules) n.instrument price a)
    (subst (λ (z : ℤ). AreFit (leg_prices_of_single (references_of rules) n.instrument z)) e
    (one_fits (references_of rules) n.instrument a.price refs k.low k.high)) in
    let q = least_left n (Direct a) in
    elim (in_cons_cases (fill_of n.place q legs n price) (fill_of n.place q legs a a.price ∷ []) f c) [
      | inl same ↦ subst (IsFillWithinLimits rules) same
          (fill_fits rules n.place q n price legs own (omega arith) less_own small l)
      | inr d ↦ elim (in_cons_cases (fill_of n.place q legs a a.price) [] f d) [
        | inl same ↦ subst (IsFillWithinLimits rules) same
            (fill_fits rules n.place q a a.price legs k (omega arith) w s l)
        | inr none ↦ absurd (not_in_nil f none)
      ]
    ]
turn_fits rules n (Implied a b) price lawful own less_own meets xs stands fits less_each f c =
    let k = fits a stands.0 in
    let j = fits b stands.1 in
    let wa = less_each a stands.0 in
    let wb = less_each b stands.1 in
    let small : IsLegPrice price = implied_fits n.side n.instrument a.side a.instrument b.side b.instrument a.price
    b.price price k.low k.high j.low j.high (priced (implied rules) n a b price meets) in
    let sa = wider a.price k.low k.high in
    let sb = wider b.price j.low j.high in
    let legs = leg_prices (references_of rules) n.instrument price (Implied a b) in
    let l : AreFit legs = subst AreFit (legs_of_pair (references_of rules) n.instrument price a b)
    (two_fits n.instrument b.instrument price a.price b.price small sa sb) in
    let q = least_left n (Implied a b) in
    elim (in_cons_cases (fill_of n.place q legs n price)
    (fill_of n.place q legs a a.price ∷ fill_of n.place q legs b b.price ∷ []) f c) [
      | inl same ↦ subst (IsFillWithinLimits rules) same
          (fill_fits rules n.place q n price legs own (omega arith) less_own small l)
      | inr d ↦ elim (in_cons_cases (fill_of n.place q legs a a.price) (fill_of n.place q legs b b.price ∷ []) f d) [
        | inl same ↦ subst (IsFillWithinLimits rules) same
            (fill_fits rules n.place q a a.price legs k (omega arith) wa sa l)
        | inr g ↦ elim (in_cons_cases (fill_of n.place q legs b b.price) [] f g) [
          | inl same ↦ subst (IsFillWithinLimits rules) same
              (fill_fits rules n.place q b b.price legs j (omega arith) wb sb l)
          | inr none ↦ absurd (not_in_nil f none)
        ]
      ]
    ]

-- ---- turns

record AllFit (rules : Rules) (t : Trading) : Type 0 where
  pub own : FitsOrder rules t.new
  pub each : All (FitsOrder rules) t.orders
  pub fills : (f : Fill) → Contains t.fills f → IsFillWithinLimits rules f

less_fits : (rules : Rules) (o : Order) (k : ℕ) → FitsOrder rules o → FitsOrder rules (record o { leaves = k })
less_fits rules o k h = record { quantity = h.quantity; low = h.low; high = h.high; listed = h.listed }

no_more : (ps : List PastTicket) (fs : List Fill) (o : Order) → IsCounted ps fs o → o.leaves ≤ o.quantity
no_more ps fs o c = let k = c.counts in omega arith

traded_fits : (rules : Rules) (ps : List PastTicket) (past : List Fill) (t : Trading) (r : Option Candidate)
    → next_candidate (implied rules) t ≡ r → IsRules rules → IsRunning (month_count rules) ps past t → AllFit rules t
    → AllFit rules (after_match (references_of rules) t r)
traded_fits rules ps past t None e lawful run h = h
traded_fits rules ps past t (Some o) e lawful run h = record {
  own = less_fits rules t.new _ h.own;
  each = traded_all (FitsOrder rules) (less_fits rules) (references_of rules) t (Some o) h.each;
  fills = λ f c. elim (Contains-append_cases t.fills (fills_of (references_of rules) t.new o) f c) [
    | inl d ↦ h.fills f d
    | inr d ↦ turn_fits rules t.new o.counterparty o.price lawful h.own
        (no_more ps (past ++ t.fills) t.new run.counted.own) (next_meets (implied rules) t o e) t.orders
        (members_rest (implied rules) t o e) (λ w m. All-contains (FitsOrder rules) t.orders w h.each m)
        (λ w m. no_more ps (past ++ t.fills) w (run.counted.each w m)) f d
  ];
}

turns_fits : (rules : Rules) (ps : List PastTicket) (past : List Fill) (k : ℕ) (t : Trading) → IsRules rules
    → IsRunning (month_count rules) ps past t → AllFit rules t
    → AllFit rules (turns (implied rules) (references_of rules) k t)
turns_fits rules ps past zero t lawful run h = h
turns_fits rules ps past (suc k) t lawful run h =
    turns_fits rules ps past k (turn (implied rules) (references_of rules) t) lawful
    (running_with (implied rules) (references_of rules) (month_count rules) ps past t
    (next_candidate (implied rules) t) refl run) (traded_fits rules ps past t (next_candidate (implied rules) t)
    refl lawful run h)

-- ---- entries

record PastFits (rules : Rules) (xs : List Order) (fs : List Fill) : Type 0 where
  pub orders : All (FitsOrder rules) xs
  pub fills : (f : Fill) → Contains fs f → IsFillWithinLimits rules f

cleared_fits : (rules : Rules) (past : JournalState) (last place : ℕ) (p : PastTicket) (n : Order) (xs : List Order)
    (immediate : Bool) → IsRules rules → last < place → AsksFor place p n → IsSound (month_count rules) past last →
    IsTradable (month_count rules) xs → ((o : Order) → Contains xs o → Contains past.orders o)
    → All (FitsOrder rules) xs → FitsOrder rules n →
    PastFits rules (resting immediate (clear (implied rules) (references_of rules) n xs))
    (clear (implied rules) (references_of rules) n xs).fills
cleared_fits rules past last place p n xs immediate lawful l a s t on h own =
    let d = clear (implied rules) (references_of rules) n xs in
    let turned : AllFit rules (turns (implied rules) (references_of rules) (length xs) (begin n xs)) =
    turns_fits rules _ past.fills (length xs) (begin n xs) lawful
    (started (month_count rules) past last place p n xs l a s t on)
    (record { own = own; each = h; fills = λ f c. absurd (not_in_nil f c) }) in
    let all : AllFit rules d = subst (AllFit rules) (sym (clear_is (implied rules) (references_of rules) n xs)) turned
    in
    record {
      orders = λ k z lt. rests_all (FitsOrder rules) d immediate
          (λ o c. All-contains (FitsOrder rules) d.orders o all.each c) all.own (d.new.leaves == 0 || immediate)
          (get_or (resting immediate d) k z) (Contains-get_or (resting immediate d) k z lt);
      fills = all.fills;
    }

entered_fits : (rules : Rules) (past : JournalState) (last place session : ℕ) (t : Ticket)
    (earlier : Option OrderStatus) (r : Result Instrument ℕ)
    → refusal_or_instrument rules t earlier (find_symbol rules t.symbol) ≡ r → IsRules rules → last < place
    → IsSound (month_count rules) past last → All (FitsOrder rules) past.orders → IsOrderPrice t.price →
    PastFits rules (new_means rules past.orders place session t r).orders
    (new_means rules past.orders place session t r).fills
entered_fits rules past last place session t earlier (Err reason) e lawful l s h k =
    record { orders = h; fills = λ f c. absurd (not_in_nil f c) }
entered_fits rules past last place session t earlier (Ok i) e lawful l s h k =
    let w = taken_is rules t earlier i e in
    cleared_fits rules past last place _ (order_of place session t i) past.orders t.immediate lawful l
    (new_asks place session t i Rested) s s.tradable (λ o c. c) h
    (record { quantity = w.most; low = k.low; high = k.high; listed = listed_found rules t.symbol i w.names })

cancelled_fits : (rules : Rules) (xs : List Order) (earlier : Option OrderStatus) (found : Option Order)
    → All (FitsOrder rules) xs → PastFits rules (cancel_means xs earlier found).orders
    (cancel_means xs earlier found).fills
cancelled_fits rules xs earlier (Some o) h = record {
  orders = All-filter (λ (w : Order). not (w.place == o.place)) (FitsOrder rules) xs h;
  fills =
      λ f c. absurd (not_in_nil f c);
}
cancelled_fits rules xs earlier None h = record { orders = h; fills = λ f c. absurd (not_in_nil f c) }

-- an order under another id and with another quantity
amended_fits : (rules : Rules) (xs : List Order) (place : ℕ) (id : List ℕ) (quantity : ℕ) → quantity ≤ 999999
    → All (FitsOrder rules) xs → All (FitsOrder rules) (amended place id quantity xs)
amended_fits rules xs place id quantity most h = all_amended (FitsOrder rules) xs place id quantity
    (λ o f. record { quantity = most; low = f.low; high = f.high; listed = f.listed }) h

replaced_fits : (rules : Rules) (past : JournalState) (last place session : ℕ) (original : List ℕ) (t : Ticket)
    (earlier other : Option OrderStatus) (found : Option Order) → find (is_own session original) past.orders ≡ found
    → IsRules rules → last < place →
    IsSound (month_count rules) past last → All (FitsOrder rules) past.orders → IsOrderPrice t.price →
    PastFits rules (replace_means rules past.orders place t
    (refusal_or_instrument rules t earlier (find_symbol rules t.symbol)) other found).orders
    (replace_means rules past.orders place t (refusal_or_instrument rules t earlier (find_symbol rules t.symbol))
    other found).fills
replaced_fits rules past last place session original t earlier other None e lawful l s h k =
    record { orders = h; fills = λ f c. absurd (not_in_nil f c) }
replaced_fits rules past last place session original t earlier other (Some o) e lawful l s h k =
    let instrument = refusal_or_instrument rules t earlier (find_symbol rules t.symbol) in
    let stands : Contains past.orders o = find_stands (is_own session original) past.orders o e in
    let own = All-contains (FitsOrder rules) past.orders o h stands in
    by_replace (λ (m : EntryMeaning). PastFits rules m.orders m.fills) rules past.orders place t instrument o
    (λ reason. record { orders = h; fills = λ f c. absurd (not_in_nil f c) })
    (λ a b. record {
      orders = amended_fits rules past.orders o.place t.id t.quantity
          (taken_is rules t earlier o.instrument a.fits).most h;
      fills = λ f c. absurd (not_in_nil f c);
    })
    (λ a. cleared_fits rules past last place _ (moved_to place t o) (removed o.place past.orders) false lawful l
    (moved_asks place session original t o Rested (own_is past.orders session original o e).session_is a.side) s
    (removed_tradable (month_count rules) o.place past.orders s.tradable)
    (λ w c. from_filter (λ (x : Order). not (x.place == o.place)) past.orders w c)
    (All-filter (λ (w : Order). not (w.place == o.place)) (FitsOrder rules) past.orders h)
    (record {
      quantity = (taken_is rules t earlier o.instrument a.fits).most;
      low = k.low;
      high = k.high;
      listed =
          own.listed;
    }))

event_fits : (rules : Rules) (past : JournalState) (last place session : ℕ) (event : Event) → IsRules rules
    → last < place → IsSound (month_count rules) past last → All (FitsOrder rules) past.orders → IsPriced event →
    PastFits rules (meaning_of rules past place (record { session = session; event = event })).orders
    (meaning_of rules past place (record { session = session; event = event })).fills
event_fits rules past last place session (New t) lawful l s h k =
    entered_fits rules past last place session t (find (has_id session t.id) (statuses_of past))
    (refusal_or_instrument rules t (find (has_id session t.id) (statuses_of past)) (find_symbol rules t.symbol)) refl
    lawful l s h k
event_fits rules past last place session (Cancel id original) lawful l s h k =
    cancelled_fits rules past.orders (find (has_id session original) (statuses_of past))
    (find (is_own session original) past.orders) h
event_fits rules past last place session (Replace original t) lawful l s h k =
    replaced_fits rules past last place session original t (find (has_id session t.id) (statuses_of past))
    (find (has_id session original) (statuses_of past)) (find (is_own session original) past.orders) refl lawful l s
    h k
event_fits rules past last place session (Logon client host beat) lawful l s h k =
    record { orders = h; fills = λ f c. absurd (not_in_nil f c) }
event_fits rules past last place session (TestReply text) lawful l s h k =
    record { orders = h; fills = λ f c. absurd (not_in_nil f c) }
event_fits rules past last place session (Gap first) lawful l s h k =
    record { orders = h; fills = λ f c. absurd (not_in_nil f c) }
event_fits rules past last place session (Resend first until) lawful l s h k =
    record { orders = h; fills = λ f c. absurd (not_in_nil f c) }
event_fits rules past last place session (Reject number reason) lawful l s h k =
    record { orders = h; fills = λ f c. absurd (not_in_nil f c) }
event_fits rules past last place session (Close reason) lawful l s h k =
    record { orders = h; fills = λ f c. absurd (not_in_nil f c) }

both_fit : (rules : Rules) (fs made : List Fill) → ((f : Fill) → Contains fs f → IsFillWithinLimits rules f)
    → ((f : Fill) → Contains made f → IsFillWithinLimits rules f) → (f : Fill) → Contains (fs ++ made) f
    → IsFillWithinLimits rules f
both_fit rules fs made h k f c = elim (Contains-append_cases fs made f c) [ inl d ↦ h f d | inr d ↦ k f d ]

entries_fit : (rules : Rules) (past : JournalState) (last : ℕ) (es : List Entry) → IsRules rules
    → ((e : Entry) → Contains es e → IsPriced e.event) → IsSound (month_count rules) past last
    → PastFits rules past.orders past.fills →
    PastFits rules (after_entries rules past (last + 1) es).orders (after_entries rules past (last + 1) es).fills
entries_fit rules past last [] lawful k s h = h
entries_fit rules past last (e ∷ es) lawful k s h =
    let priced = k e (in_head e es) in
    let now = event_fits rules past last (last + 1) e.session e.event lawful (omega arith) s h.orders priced in
    entries_fit rules (after_entry rules past (last + 1) e) (last + 1) es lawful (λ x c. k x (in_tail e es x c))
    (entry_kept rules past last (last + 1) e (omega arith) s priced).sound
    (record {
      orders = now.orders;
      fills = both_fit rules past.fills (meaning_of rules past (last + 1) e).fills h.fills
          now.fills;
    })

-- each fill of a journal
pub fills_fit : (rules : Rules) (journal : List Entry) → IsRules rules → ArePriced journal → (f : Fill)
    → Contains (meaning_of_journal rules journal).fills f → IsFillWithinLimits rules f
fills_fit rules journal lawful k =
    (entries_fit rules no_entries 0 journal lawful (λ e c. All-contains (λ (x : Entry). IsPriced x.event) journal e k c)
    (none_sound (month_count rules))
    (record { orders = λ k z lt. absurd (omega arith); fills = λ f c. absurd (not_in_nil f c) })).fills
