-- a market that can be worked on still can after an entry
use Rattle.std.proofs.Common.{◌≡◌, ℕ, zero, suc, ◌==◌, ◌<◌, ◌≤◌, ℤ, Bool, true, false, not, ◌||◌, cond, List, [], ◌∷◌, ◌++◌, map, length, get_or, Contains, All, inl, inr, ◌∙◌, Option, Some, None, option_map, Result, Ok, Err, refl, subst, sym, ap, arith}
use Rattle.std.proofs.lemmas.List.Elements.{All-contains, All-filter, Contains-get_or}
use Rattle.std.specs.List.{find}
use Rattle.spread_rules.specs.declared.order.Order.{Order}
use Rattle.spread_rules_rulebook.specs.declared.instrument.Instrument.{Instrument}
use Rattle.spread_rules.specs.declared.candidate.Candidate.{Candidate}
use Rattle.spread_rules.specs.declared.event.Ticket.{Ticket}
use Rattle.spread_rules.specs.declared.event.Event.{Event}
use Rattle.spread_rules.specs.declared.event.Event.TheVariants.{Logon, New, Cancel, Replace, TestReply, Gap, Resend, Reject, Close}
use Rattle.spread_rules.specs.declared.outcome.OrderStatus.{OrderStatus}
use Rattle.spread_rules.specs.declared.outcome.Outcome.{Outcome}
use Rattle.spread_rules.specs.declared.outcome.Outcome.TheVariants.{Filled, Ended, Rested}
use Rattle.spread_rules.specs.Candidates.{PlacesDiffer, Pairs}
use Rattle.spread_rules.specs.code.Candidates.{HasOrderPrice}
use Rattle.spread_rules.specs.Clearing.{Trading, clear, removed}
use Rattle.spread_rules.specs.code.Clearing.{next_candidate, turn, turns, after_match, begin}
use Rattle.spread_rules_rulebook.specs.Prices.{IsOrderPrice}
use Rattle.spread_rules.specs.Meaning.{EntryMeaning, cancel_means, has_id, is_own, is_refused, new_means, order_of, outcome_of, place_left, replace_means, ticket_of}
use Rattle.spread_rules.specs.code.Meaning.{moved_to, original_of, refusal_or_instrument, resting}
use Rattle.spread_rules_rulebook.specs.Rulebook.{Rules, month_count, references_of, find_symbol, implied}
use Rattle.spread_rules.proofs.clearings.ClearIsTurns.{clear_is}
use Rattle.spread_rules.proofs.clearings.TurnsEnd.{members_rest, next_meets}
use Rattle.spread_match_state.specs.State.{MarketState}
use Rattle.spread_books_search.specs.Listed.{IsNearFirst, IsInMonths}
use Rattle.spread_match_trading.specs.Tradable.{IsTradable}
use Rattle.spread_match_state.specs.Trade.{IsPriced}
use Rattle.spread_match_state.specs.code.StateAfter.{IsReady, first_status, meaning_in, state_after, state_with, statuses_after_replace}
use Rattle.spread_match_orders.specs.code.Entering.{HaveStatuses, place_of_id}
use Rattle.spread_match_statuses.specs.code.Statuses.{status_after_fill, status_after_replace, statuses_after}
use Rattle.spread_match_statuses.proofs.status_rows.MarkedRows.{KeepsName, has_id_kept, has_own_id}
use Rattle.spread_match_statuses.proofs.status_rows.MarksOfEntries.{fill_keeps, replace_keeps}
use Rattle.spread_match_trading.proofs.turns.NotAgainstItself.{are_apart}
use Rattle.spread_match_trading.proofs.turns.StaysTradable.{still_tradable}
use Rattle.spread_match_orders.proofs.entries.NewOrder.{clear_all, clear_keeps, below_new, none_earlier, taken_is}
use Rattle.spread_match_state.proofs.entries.NamedInstrument.{listed_found, near_of, months_of}
use Rattle.spread_match_state.proofs.entries.MayRest.{MayRest, moved_rests, removed_tradable}
use Rattle.spread_match.proofs.entries.PastStaysSound.{later_all, new_rests, rests_all, rest_tradable}
use Rattle.spread_match_orders.proofs.entries.FoundStands.{find_stands}
use Rattle.spread_match_state.proofs.entries.Replaces.{CanReplace, all_amended, amended_tradable, by_replace, from_amended, own_is}
use Rattle.spread_rules.specs.Amended.{done}
use Rattle.spread_rules.specs.code.Amended.{amended}
use Rattle.spread_rules.specs.declared.fill.Fill.{Fill}

traded_tradable : (on : Pairs) (references : List ℤ) (months : ℕ) (t : Trading) (r : Option Candidate)
    → next_candidate on t ≡ r → IsTradable months t.orders → IsTradable months (after_match references t r).orders
traded_tradable on references months t None e h = h
traded_tradable on references months t (Some o) e h =
    let stands = members_rest on t o e in
    still_tradable months t.new t.orders o.counterparty h stands
    (are_apart on t.new t.orders o.counterparty o.price h.places stands (next_meets on t o e))

turns_tradable : (on : Pairs) (references : List ℤ) (months k : ℕ) (t : Trading) → IsTradable months t.orders
    → IsTradable months (turns on references k t).orders
turns_tradable on references months zero t h = h
turns_tradable on references months (suc k) t h = turns_tradable on references months k (turn on references t)
    (traded_tradable on references months t (next_candidate on t) refl h)

-- orders that can be traded with, up to that place
record AreReady (months : ℕ) (xs : List Order) (last : ℕ) : Type 0 where
  pub tradable : IsTradable months xs
  pub below : All (λ o. o.place ≤ last) xs

-- an order of that place that is traded with those of earlier places
cleared_ready : (on : Pairs) (references : List ℤ) (months : ℕ) (xs : List Order) (last place : ℕ) (n : Order)
    (immediate : Bool) → last < place → n.place ≡ place → AreReady months xs last → MayRest months n
    → AreReady months (resting immediate (clear on references n xs)) place
cleared_ready on references months xs last place n immediate l placed r rests =
    let d = clear on references n xs in
    let below : All (λ o. o.place < place) d.orders = clear_all on (λ (o : Order). o.place < place) (λ o k h. h)
    references n xs (below_new xs last place r.below l) in
    let new : d.new ≡ record n { leaves = d.new.leaves } = clear_keeps on references n xs in
    let still : IsTradable months d.orders = subst (λ (t : Trading). IsTradable months t.orders)
    (sym (clear_is on references n xs)) (turns_tradable on references months (length xs) (begin n xs) r.tradable) in
    let at : place ≡ d.new.place = sym placed ∙ sym (ap (λ (o : Order). o.place) new) in
    record {
      tradable = rest_tradable months d immediate (d.new.leaves == 0) refl still
          (subst (λ (k : ℕ). All (λ (o : Order). o.place < k) d.orders) at below)
          (subst HasOrderPrice (sym new) (let k = rests.small in record { low = k.low; high = k.high }))
          (subst IsNearFirst (sym new) (let k = rests.listed in record { near_before_far = k.near_before_far }))
          (subst (λ (o : Order). IsInMonths months o.instrument) (sym new) rests.within);
      below = λ k e lt. rests_all (λ (o : Order). o.place ≤ place) d immediate
          (λ o c. let a = All-contains (λ (w : Order). w.place < place) d.orders o below c in omega arith) (omega arith)
          (d.new.leaves == 0 || immediate)
          (get_or (resting immediate d) k e) (Contains-get_or (resting immediate d) k e lt);
    }

later_ready : (months : ℕ) (xs : List Order) (last place : ℕ) → last < place → AreReady months xs last
    → AreReady months xs place
later_ready months xs last place l r = record { tradable = r.tradable; below = later_all xs last place l r.below }

entered_ready : (rules : Rules) (xs : List Order) (last place session : ℕ) (t : Ticket) (earlier : Option OrderStatus)
    (r : Result Instrument ℕ) → refusal_or_instrument rules t earlier (find_symbol rules t.symbol) ≡ r → last < place
    → AreReady (month_count rules) xs last → IsOrderPrice t.price →
    AreReady (month_count rules) (new_means rules xs place session t r).orders place
entered_ready rules xs last place session t earlier (Err reason) e l h k =
    later_ready (month_count rules) xs last place l h
entered_ready rules xs last place session t earlier (Ok i) e l h k =
    let listed = listed_found rules t.symbol i (taken_is rules t earlier i e).names in
    cleared_ready (implied rules) (references_of rules) (month_count rules) xs last place (order_of place session t i)
    t.immediate l refl h (new_rests (month_count rules) place session t i k (near_of rules i listed)
    (months_of rules i listed))

cancelled_ready : (months : ℕ) (xs : List Order) (last place : ℕ) (earlier : Option OrderStatus) (found : Option Order)
    → last < place → AreReady months xs last → AreReady months (cancel_means xs earlier found).orders place
cancelled_ready months xs last place earlier (Some o) l h = record {
  tradable = removed_tradable months o.place xs h.tradable;
  below = All-filter (λ (w : Order). not (w.place == o.place)) (λ (w : Order). w.place ≤ place) xs
      (later_all xs last place l h.below);
}
cancelled_ready months xs last place earlier None l h = later_ready months xs last place l h

removed_ready : (months : ℕ) (xs : List Order) (last gone : ℕ) → AreReady months xs last
    → AreReady months (removed gone xs) last
removed_ready months xs last gone h = record {
  tradable = removed_tradable months gone xs h.tradable;
  below =
      All-filter (λ (w : Order). not (w.place == gone)) (λ (w : Order). w.place ≤ last) xs h.below;
}

amended_ready : (months : ℕ) (xs : List Order) (last place : ℕ) (r : Order) (id : List ℕ) (quantity : ℕ) → last < place
    → Contains xs r → done r < quantity → AreReady months xs last
    → AreReady months (amended r.place id quantity xs) place
amended_ready months xs last place r id quantity l stands more h = record {
  tradable = amended_tradable months xs r id quantity h.tradable stands more;
  below = all_amended (λ (o : Order). o.place ≤ place) xs r.place id quantity (λ o k. k)
      (later_all xs last place l h.below);
}

replaced_ready : (rules : Rules) (xs : List Order) (last place session : ℕ) (original : List ℕ) (t : Ticket)
    (r : Result Instrument ℕ) (earlier : Option OrderStatus) (found : Option Order)
    → find (is_own session original) xs ≡ found → last < place →
    AreReady (month_count rules) xs last → IsOrderPrice t.price
    → AreReady (month_count rules) (replace_means rules xs place t r earlier found).orders place
replaced_ready rules xs last place session original t r earlier None e l h k =
    later_ready (month_count rules) xs last place l h
replaced_ready rules xs last place session original t r earlier (Some o) e l h k =
    let stands : Contains xs o = find_stands (is_own session original) xs o e in
    by_replace (λ (m : EntryMeaning). AreReady (month_count rules) m.orders place) rules xs place t r o
    (λ reason. later_ready (month_count rules) xs last place l h)
    (λ a b. amended_ready (month_count rules) xs last place o t.id t.quantity l stands a.more h)
    (λ a. cleared_ready (implied rules) (references_of rules) (month_count rules) (removed o.place xs) last place
    (moved_to place t o) false l refl (removed_ready (month_count rules) xs last o.place h)
    (moved_rests (month_count rules) place xs t o h.tradable stands k))

event_ready : (rules : Rules) (m : MarketState) (place session : ℕ) (event : Event) → m.last < place
    → AreReady (month_count rules) m.orders m.last → IsPriced event
    → AreReady (month_count rules) (meaning_in rules m place session event).orders place
event_ready rules m place session (New t) l h k = entered_ready rules m.orders m.last place session t
    (find (has_id session t.id) m.statuses) (refusal_or_instrument rules t (find (has_id session t.id) m.statuses)
    (find_symbol rules t.symbol)) refl l h k
event_ready rules m place session (Cancel id original) l h k =
    cancelled_ready (month_count rules) m.orders m.last place (find (has_id session original) m.statuses)
    (find (is_own session original) m.orders) l h
event_ready rules m place session (Replace original t) l h k =
    replaced_ready rules m.orders m.last place session original t _ (find (has_id session original) m.statuses)
    (find (is_own session original) m.orders) refl l h k
event_ready rules m place session (Logon client host beat) l h k =
    later_ready (month_count rules) m.orders m.last place l h
event_ready rules m place session (TestReply text) l h k = later_ready (month_count rules) m.orders m.last place l h
event_ready rules m place session (Gap first) l h k = later_ready (month_count rules) m.orders m.last place l h
event_ready rules m place session (Resend first until) l h k = later_ready (month_count rules) m.orders m.last place l h
event_ready rules m place session (Reject number reason) l h k =
    later_ready (month_count rules) m.orders m.last place l h
event_ready rules m place session (Close reason) l h k = later_ready (month_count rules) m.orders m.last place l h

-- ---- the statuses of what rests are kept, and name their places

-- what keeps session, id and place of each status
place_marked : (g : OrderStatus → OrderStatus) (ss : List OrderStatus) (session : ℕ) (id : List ℕ) → KeepsName g
    → place_of_id (map g ss) session id ≡ place_of_id ss session id
place_marked g [] session id k = refl
place_marked g (s ∷ ss) session id k = ap (λ (b : Bool). option_map (λ (t : OrderStatus). t.place)
    (cond b (Some (g s)) (find (has_id session id) (map g ss)))) (has_id_kept g session id s k)
    ∙ by_test (has_id session id s) (place_marked g ss session id k)
  where
    by_test : (b : Bool) → place_of_id (map g ss) session id ≡ place_of_id ss session id →
        option_map (λ (t : OrderStatus). t.place) (cond b (Some (g s)) (find (has_id session id) (map g ss))) ≡
        option_map (λ (t : OrderStatus). t.place) (cond b (Some s) (find (has_id session id) ss))
    by_test true h = ap (λ (n : ℕ). Some n) (k.place s)
    by_test false h = h

known_filled : (fs : List Fill) (ss : List OrderStatus) (session : ℕ) (id : List ℕ)
    → place_of_id (statuses_after fs ss) session id ≡ place_of_id ss session id
known_filled [] ss session id = refl
known_filled (f ∷ fs) ss session id = known_filled fs (map (status_after_fill f) ss) session id
    ∙ place_marked (status_after_fill f) ss session id (fill_keeps f)

known_replaced : (own : ℕ) (outcome : Outcome) (original : Option (List ℕ)) (ss : List OrderStatus) (session : ℕ)
    (id : List ℕ) → place_of_id (statuses_after_replace own outcome original ss) session id ≡ place_of_id ss session id
known_replaced own outcome None ss session id = refl
known_replaced own outcome (Some original) ss session id = by_test (is_refused outcome)
  where
    by_test : (b : Bool) → place_of_id (cond b ss (map (status_after_replace own original) ss)) session id ≡ place_of_id
        ss session id
    by_test true = refl
    by_test false = place_marked (status_after_replace own original) ss session id (replace_keeps own original)

known_more : (ss more : List OrderStatus) (session : ℕ) (id : List ℕ) (place : ℕ)
    → place_of_id ss session id ≡ Some place → place_of_id (ss ++ more) session id ≡ Some place
known_more [] more session id place h = cc
known_more (s ∷ ss) more session id place h = by_test (has_id session id s) (known_more ss more session id place) h
  where
    by_test : (b : Bool) → (place_of_id ss session id ≡ Some place → place_of_id (ss ++ more) session id ≡ Some place)
        → option_map (λ (t : OrderStatus). t.place) (cond b (Some s) (find (has_id session id) ss)) ≡ Some place →
        option_map (λ (t : OrderStatus). t.place) (cond b (Some s) (find (has_id session id) (ss ++ more))) ≡ Some place
    by_test true on k = k
    by_test false on k = on k

known_last : (ss : List OrderStatus) (s : OrderStatus) → find (has_id s.session s.id) ss ≡ None
    → place_of_id (ss ++ s ∷ []) s.session s.id ≡ Some s.place
known_last [] s none = ap (λ (b : Bool). option_map (λ (t : OrderStatus). t.place) (cond b (Some s) None))
    (has_own_id s)
known_last (x ∷ ss) s none = by_test (has_id s.session s.id x) (known_last ss s) none
  where
    by_test : (b : Bool) → (find (has_id s.session s.id) ss ≡ None
        → place_of_id (ss ++ s ∷ []) s.session s.id ≡ Some s.place)
        → cond b (Some x) (find (has_id s.session s.id) ss) ≡ None →
        option_map (λ (t : OrderStatus). t.place) (cond b (Some x) (find (has_id s.session s.id) (ss ++ s ∷ []))) ≡ Some
        s.place
    by_test true on h = cc
    by_test false on h = on h

-- what was known still is
known_still : (m : MarketState) (place session : ℕ) (event : Event) (e : EntryMeaning) (own : ℕ) (id : List ℕ) (at : ℕ)
    → place_of_id m.statuses own id ≡ Some at → place_of_id (state_with m place session event e).statuses own id ≡ Some
    at
known_still m place session event e own id at h =
    known_filled e.fills _ own id ∙ (known_replaced session e.outcome (original_of event) _ own id
    ∙ known_more m.statuses (first_status place session e.outcome (ticket_of event)) own id at h)

-- the ticket's id is known, where it was not used
known_now : (m : MarketState) (place session : ℕ) (event : Event) (e : EntryMeaning) (t : Ticket)
    → ticket_of event ≡ Some t → find (has_id session t.id) m.statuses ≡ None →
    place_of_id (state_with m place session event e).statuses session t.id ≡ Some (place_left place e.outcome)
known_now m place session event e t asks unused =
    let s : OrderStatus = record {
      session = session;
      id = t.id;
      place = place_left place e.outcome;
      status =
          cond (is_refused e.outcome) 8 4;
    } in
    known_filled e.fills _ session t.id ∙ (known_replaced session e.outcome (original_of event) _ session t.id
    ∙ subst (λ (o : Option Ticket). place_of_id (m.statuses ++ first_status place session e.outcome o) session t.id ≡
    Some s.place) (sym asks) (known_last m.statuses s unused))

-- each order is one that rested, or bears the ticket's id

traded_come : (on : Pairs) (references : List ℤ) (n : Order) (xs : List Order) (immediate : Bool)
    (P : ℕ → List ℕ → ℕ → Type 0) → All (λ o. P o.session o.id o.place) xs → P n.session n.id n.place →
    All (λ o. P o.session o.id o.place) (resting immediate (clear on references n xs))
traded_come on references n xs immediate P h own =
    let d = clear on references n xs in
    let all : All (λ o. P o.session o.id o.place) d.orders =
    clear_all on (λ (o : Order). P o.session o.id o.place) (λ o k w. w) references n xs h in
    let new : d.new ≡ record n { leaves = d.new.leaves } = clear_keeps on references n xs in
    λ k e lt. rests_all (λ (o : Order). P o.session o.id o.place) d immediate
    (λ o c. All-contains (λ (w : Order). P w.session w.id w.place) d.orders o all c)
    (subst (λ (o : Order). P o.session o.id o.place) (sym new) own) (d.new.leaves == 0 || immediate)
    (get_or (resting immediate d) k e) (Contains-get_or (resting immediate d) k e lt)

-- an order that was traded as it came stands at its entry's place
own_place : (place left : ℕ) (immediate : Bool) → place_left place (outcome_of immediate left) ≡ place
own_place place left immediate = by_tests (left == 0) immediate
  where
    by_tests : (a b : Bool) → place_left place (cond a Filled (cond b (Ended left) Rested)) ≡ place
    by_tests true b = refl
    by_tests false true = refl
    by_tests false false = refl

new_come : (rules : Rules) (xs : List Order) (place session : ℕ) (t : Ticket) (used : Option OrderStatus)
    (r : Result Instrument ℕ) → refusal_or_instrument rules t used (find_symbol rules t.symbol) ≡ r
    → (P : ℕ → List ℕ → ℕ → Type 0) →
    All (λ o. P o.session o.id o.place) xs → (used ≡ None
    → P session t.id (place_left place (new_means rules xs place session t r).outcome))
    → All (λ o. P o.session o.id o.place) (new_means rules xs place session t r).orders
new_come rules xs place session t used (Err reason) e P h own = h
new_come rules xs place session t used (Ok i) e P h own =
    let n = order_of place session t i in
    traded_come (implied rules) (references_of rules) n xs t.immediate P h
    (subst (P session t.id) (own_place place (clear (implied rules) (references_of rules) n xs).new.leaves t.immediate)
    (own (none_earlier rules t used (find_symbol rules t.symbol) i e)))

cancel_come : (xs : List Order) (earlier : Option OrderStatus) (found : Option Order) (P : ℕ → List ℕ → ℕ → Type 0)
    → All (λ o. P o.session o.id o.place) xs → All (λ o. P o.session o.id o.place)
    (cancel_means xs earlier found).orders
cancel_come xs earlier (Some o) P h = All-filter (λ (w : Order). not (w.place == o.place))
    (λ (w : Order). P w.session w.id w.place) xs h
cancel_come xs earlier None P h = h

replace_come : (rules : Rules) (xs : List Order) (place session : ℕ) (original : List ℕ) (t : Ticket)
    (used : Option OrderStatus) (earlier : Option OrderStatus) (found : Option Order)
    → find (is_own session original) xs ≡ found → PlacesDiffer xs →
    (P : ℕ → List ℕ → ℕ → Type 0) → All (λ o. P o.session o.id o.place) xs →
    (used ≡ None → P session t.id (place_left place (replace_means rules xs place t
    (refusal_or_instrument rules t used (find_symbol rules t.symbol)) earlier found).outcome)) →
    All (λ o. P o.session o.id o.place) (replace_means rules xs place t
    (refusal_or_instrument rules t used (find_symbol rules t.symbol)) earlier found).orders
replace_come rules xs place session original t used earlier None e differ P h own = h
replace_come rules xs place session original t used earlier (Some o) e differ P h own =
    let stands : Contains xs o = find_stands (is_own session original) xs o e in
    let mine : (at : ℕ) → P session t.id at → P o.session t.id at =
    λ at p. subst (λ (n : ℕ). P n t.id at) (sym (own_is xs session original o e).session_is) p in
    let free : (a : CanReplace t o (refusal_or_instrument rules t used (find_symbol rules t.symbol)))
    → used ≡ None = λ a. none_earlier rules t used (find_symbol rules t.symbol) o.instrument a.fits in
    by_replace (λ (m : EntryMeaning). (used ≡ None → P session t.id (place_left place m.outcome))
    → All (λ w. P w.session w.id w.place) m.orders) rules xs place t _ o
    (λ reason p. h)
    (λ a b p. λ k d lt.
    let w = get_or (amended o.place t.id t.quantity xs) k d in
    let c = from_amended xs o.place t.id t.quantity w (Contains-get_or (amended o.place t.id t.quantity xs) k d lt) in
    elim c.is [
      | inl f ↦ subst (λ (v : Order). P v.session v.id v.place) f.1
          (subst (λ (v : Order). P v.session t.id v.place) (sym (differ c.was o c.stands stands f.0))
          (mine o.place (p (free a))))
      | inr f ↦ subst (λ (v : Order). P v.session v.id v.place) f.1
          (All-contains (λ (v : Order). P v.session v.id v.place) xs c.was h c.stands)
    ])
    (λ a p. traded_come (implied rules) (references_of rules) (moved_to place t o) (removed o.place xs) false P
    (All-filter (λ (w : Order). not (w.place == o.place)) (λ (w : Order). P w.session w.id w.place) xs h)
    (mine place (p (free a))))
    own

known_after : (rules : Rules) (m : MarketState) (place session : ℕ) (event : Event) → PlacesDiffer m.orders
    → HaveStatuses m.statuses m.orders → HaveStatuses (state_after rules m place session event).statuses
    (meaning_in rules m place session event).orders
known_after rules m place session event differ h = by_event event refl
  where
    e : EntryMeaning
    e = meaning_in rules m place session event

    P : ℕ → List ℕ → ℕ → Type 0
    P own id at = place_of_id (state_after rules m place session event).statuses own id ≡ Some at

    all : All (λ o. P o.session o.id o.place) m.orders
    all = λ k d lt. let o = get_or m.orders k d in known_still m place session event e o.session o.id o.place (h k d lt)

    now : (v : Event) (t : Ticket) → event ≡ v → ticket_of v ≡ Some t → find (has_id session t.id) m.statuses ≡ None
        → P session t.id (place_left place (meaning_in rules m place session v).outcome)
    now v t f asks unused = subst (λ (w : Event). P session t.id
        (place_left place (meaning_in rules m place session w).outcome)) f
        (known_now m place session event e t (ap ticket_of f ∙ asks) unused)

    by_event : (v : Event) → event ≡ v → All (λ o. P o.session o.id o.place) (meaning_in rules m place session v).orders
    by_event (New t) f = new_come rules m.orders place session t (find (has_id session t.id) m.statuses) _ refl P all
        (now (New t) t f refl)
    by_event (Replace original t) f =
        replace_come rules m.orders place session original t (find (has_id session t.id) m.statuses)
        (find (has_id session original) m.statuses) (find (is_own session original) m.orders) refl differ P all
        (now (Replace original t) t f refl)
    by_event (Cancel id original) f = cancel_come m.orders (find (has_id session original) m.statuses)
        (find (is_own session original) m.orders) P all
    by_event (Logon client host beat) f = all
    by_event (TestReply text) f = all
    by_event (Gap first) f = all
    by_event (Resend first until) f = all
    by_event (Reject number reason) f = all
    by_event (Close reason) f = all

pub ready_after : (rules : Rules) (m : MarketState) (place session : ℕ) (event : Event) → IsReady (month_count rules) m
    → m.last < place → IsPriced event → IsReady (month_count rules) (state_after rules m place session event)
ready_after rules m place session event r l k =
    let a = event_ready rules m place session event l (record { tradable = r.tradable; below = r.below }) k in
    record {
      tradable = a.tradable;
      below = a.below;
      known =
          known_after rules m place session event r.tradable.places r.known;
    }
