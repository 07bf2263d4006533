-- the market's state after a new order was traded, and after a replace
use Rattle.std.proofs.Common.{◌≡◌, ℕ, ◌==◌, ◌+◌, ◌*◌, min, ◌<◌, ◌≤◌, Bool, true, false, not, cond, List, [], ◌∷◌, ◌++◌, map, length, get_or, Contains, All, Option, Some, None, Result, Ok, Err, IfOk, refl, subst, sym, ap, ◌∙◌, arith}
use Rattle.std.specs.Prelude.{nat_le}
use Rattle.std.specs.List.{find}
use Rattle.std.proofs.lemmas.Bool.Decides.{nat_tests}
use Rattle.std.proofs.lemmas.List.Elements.{All-contains, All-filter, Contains-get_or, filter-append}
use Rattle.spread_rules.specs.declared.order.Order.{Order}
use Rattle.spread_rules_rulebook.specs.declared.instrument.Instrument.{Instrument}
use Rattle.spread_rules.specs.declared.event.Ticket.{Ticket}
use Rattle.spread_rules.specs.declared.event.Event.TheVariants.{New, Replace}
use Rattle.spread_rules.specs.declared.outcome.Outcome.{Outcome}
use Rattle.spread_rules.specs.declared.outcome.Outcome.TheVariants.{Rested, Filled, Ended}
use Rattle.spread_rules.specs.declared.outcome.OrderStatus.{OrderStatus}
use Rattle.spread_rules.specs.code.Cases.{clearing_means, keeping_means, moving_means, replace_of_resting}
use Rattle.spread_rules.specs.Amended.{done}
use Rattle.spread_rules.specs.Candidates.{PlacesDiffer}
use Rattle.spread_rules.specs.Clearing.{Trading, clear, removed}
use Rattle.spread_rules.specs.Meaning.{has_id, instrument_or_refusal_of, is_own, is_refused, may_replace, order_of, outcome_of, place_left, replace_means}
use Rattle.spread_rules.specs.code.Meaning.{keeps_place, moved_to, replace_refused, resting}
use Rattle.spread_rules_rulebook.specs.Prices.{IsOrderPrice}
use Rattle.spread_rules_rulebook.specs.Rulebook.{Rules, references_of, implied}
use Rattle.spread_books_plain.specs.Queues.{CanAmend}
use Rattle.spread_match_state.specs.State.{MarketState}
use Rattle.spread_match_trading.specs.Tradable.{IsTradable}
use Rattle.spread_match_state.specs.code.StateAfter.{meaning_in, moved_in, replaced_in, state_after, state_with}
use Rattle.spread_match_orders.specs.code.Entering.{HaveStatuses, entered_status}
use Rattle.spread_match_orders.specs.code.Refusals.{replace_refusal}
use Rattle.spread_match_statuses.specs.code.Statuses.{status_after_replace, statuses_after}
use Rattle.spread_match_trading.specs.code.Turns.{IsNewest}
use Rattle.spread_match_orders.proofs.entries.NewOrder.{below_new, removed_newest, tradable_more, first_is_four}
use Rattle.spread_match_state.proofs.entries.MayRest.{moved_rests, removed_tradable}
use Rattle.spread_match_orders.proofs.entries.OrderOfAnId.{unused_rests}
use Rattle.spread_match_state.proofs.entries.Replaces.{own_is}

-- ---- a new order

own_place : (place left : ℕ) (a b : Bool) → place_left place (cond a Filled (cond b (Ended left) Rested)) ≡ place
own_place place left true b = refl
own_place place left false true = refl
own_place place left false false = refl

-- the state after it was traded
pub matched_state : (m : MarketState) (place session : ℕ) (t : Ticket) (i : Instrument) (orders : List Order)
    (statuses : List OrderStatus) (quotes_by : Option Rules) (d : Trading) → orders ≡ resting t.immediate d →
    statuses ≡ statuses_after d.fills (m.statuses ++ entered_status (order_of place session t i) ∷ [])
    → quotes_by ≡ m.quotes_by
    → record { orders = orders; statuses = statuses; last = place; quotes_by = quotes_by } ≡ state_with m place session
    (New t) (clearing_means t.immediate d)
matched_state m place session t i orders statuses quotes_by d e f h =
    let outcome = outcome_of t.immediate d.new.leaves in
    let last = λ (p k : ℕ). statuses_after d.fills (m.statuses
    ++ record { session = session; id = t.id; place = p; status = k } ∷ []) in
    let first : last place 4 ≡ last (place_left place outcome) (cond (is_refused outcome) 8 4) =
    ap (λ (p : ℕ). last p 4) (sym (own_place place d.new.leaves (d.new.leaves == 0) t.immediate))
    ∙ ap (last (place_left place outcome)) (first_is_four t.immediate d.new.leaves) in
    ap (λ (q : Option Rules). record { orders = orders; statuses = statuses; last = place; quotes_by = q }) h
    ∙ (ap (λ (xs : List Order). record m { orders = xs; statuses = statuses; last = place }) e
    ∙ ap (λ (ss : List OrderStatus). record m { orders = resting t.immediate d; statuses = ss; last = place })
    (f ∙ first))

-- ---- a replace that loses its place

pub removed_push : (gone : ℕ) (xs : List Order) (n : Order) → gone < n.place
    → removed gone (xs ++ n ∷ []) ≡ removed gone xs ++ n ∷ []
removed_push gone xs n h =
    let other : (n.place == gone) ≡ false = grind (arith, nat_tests, h) in
    filter-append (λ (o : Order). not (o.place == gone)) xs (n ∷ [])
    ∙ ap (λ (b : Bool). removed gone xs ++ cond (not b) (n ∷ []) []) other

moved_ends : (xs book : List Order) (last place : ℕ) (r n : Order) → All (λ o. o.place ≤ last) xs → last < place
    → Contains xs r → n.place ≡ place → book ≡ removed r.place (xs ++ n ∷ []) → book ≡ removed r.place xs ++ n ∷ []
moved_ends xs book last place r n below later stands at e =
    let here = All-contains (λ (o : Order). o.place ≤ last) xs r below stands in
    e ∙ removed_push r.place xs n (omega (arith, here, later, at))

moved_below : (xs : List Order) (last place : ℕ) (r n : Order) → All (λ o. o.place ≤ last) xs → last < place
    → n.place ≡ place → All (λ o. o.place < n.place) (removed r.place xs)
moved_below xs last place r n below later at =
    All-filter (λ (o : Order). not (o.place == r.place)) (λ (o : Order). o.place < n.place) xs
    (below_new xs last n.place below (omega (arith, later, at)))

pub moved_newest : (xs book : List Order) (last place : ℕ) (r n : Order) → All (λ o. o.place ≤ last) xs → last < place
    → Contains xs r → n.place ≡ place → book ≡ removed r.place (xs ++ n ∷ []) → IsNewest n book
moved_newest xs book last place r n below later stands at e =
    record {
      rest = removed r.place xs;
      ends = moved_ends xs book last place r n below later stands at e;
      below =
          moved_below xs last place r n below later at;
    }

pub moved_tradable : (months : ℕ) (xs book : List Order) (last place : ℕ) (t : Ticket) (r n : Order)
    → IsTradable months xs → All (λ o. o.place ≤ last) xs → last < place → Contains xs r → IsOrderPrice t.price
    → done r < t.quantity →
    n ≡ moved_to place t r → book ≡ removed r.place (xs ++ n ∷ []) → IsTradable months book
moved_tradable months xs book last place t r n tradable below later stands price more same e =
    let m = moved_to place t r in
    let here = All-contains (λ (o : Order). o.place ≤ last) xs r below stands in
    let rests = moved_rests months place xs t r tradable stands price in
    subst (IsTradable months) (sym (e ∙ (ap (λ (o : Order). removed r.place (xs ++ o ∷ [])) same
    ∙ removed_push r.place xs m (omega (arith, here, later)))))
    (tradable_more months (removed r.place xs) m (removed_tradable months r.place xs tradable)
    (All-filter (λ (o : Order). not (o.place == r.place)) (λ (o : Order). o.place < place) xs
    (below_new xs last place below later))
    rests.small rests.listed rests.within (omega (arith, more)))

-- the orders that it is traded with
pub moved_rest : (xs book : List Order) (last place : ℕ) (r n : Order) → All (λ o. o.place ≤ last) xs → last < place
    → Contains xs r → n.place ≡ place → book ≡ removed r.place (xs ++ n ∷ [])
    → removed n.place book ≡ removed r.place xs
moved_rest xs book last place r n below later stands at e =
    ap (removed n.place) (moved_ends xs book last place r n below later stands at e)
    ∙ removed_newest n (removed r.place xs) (moved_below xs last place r n below later at)

fewer_left : (gone : ℕ) (xs : List Order) → length (removed gone xs) ≤ length xs
fewer_left gone [] = omega arith
fewer_left gone (x ∷ xs) = by_test (not (x.place == gone)) (fewer_left gone xs)
  where
    by_test : (b : Bool) → length (removed gone xs) ≤ length xs
        → length (cond b (x ∷ removed gone xs) (removed gone xs)) ≤ length (x ∷ xs)
    by_test true h = omega (arith, h)
    by_test false h = omega (arith, h)

pub room_moved : (xs rest : List Order) (gone len cap got n q leaves : ℕ) → rest ≡ removed gone xs → len + 3 * got ≤ cap
    → got ≡ min n q → n ≡ length xs → leaves ≤ q → len + 3 * min leaves (length rest) ≤ cap
room_moved xs rest gone len cap got n q leaves e h g f l =
    let a : length rest ≤ n = (let b = fewer_left gone xs in let c : length rest ≡ length (removed gone xs) =
    ap (λ (ys : List Order). length ys) e in omega (arith, b, c, f)) in
    omega (arith, h, g, l, a)

-- the state after it was traded
pub moved_state : (rules : Rules) (m : MarketState) (place : ℕ) (t : Ticket) (r n : Order) (orders : List Order)
    (statuses : List OrderStatus) (quotes_by : Option Rules) (d : Trading) → n ≡ moved_to place t r →
    d ≡ clear (implied rules) (references_of rules) (moved_to place t r) (removed r.place m.orders)
    → orders ≡ resting false d →
    statuses ≡ statuses_after d.fills (map (status_after_replace r.session r.id) (m.statuses ++ entered_status n ∷ []))
    → quotes_by ≡ m.quotes_by →
    record { orders = orders; statuses = statuses; last = place; quotes_by = quotes_by } ≡ state_with m place r.session
    (Replace r.id t) (moved_in rules m place t r)
moved_state rules m place t r n orders statuses quotes_by d same e f g h =
    ap (λ (q : Option Rules). record { orders = orders; statuses = statuses; last = place; quotes_by = q }) h
    ∙ (ap (λ (xs : List Order). record m { orders = xs; statuses = statuses; last = place }) f
    ∙ (ap (λ (ss : List OrderStatus). record m { orders = resting false d; statuses = ss; last = place }) g
    ∙ (ap (λ (o : Order). record m {
      orders = resting false d;
      statuses =
          statuses_after d.fills (map (status_after_replace r.session r.id) (m.statuses ++ entered_status o ∷ []));
      last =
          place;
    }) same
    ∙ ap (λ (x : Trading). record m {
      orders = resting false x;
      statuses =
          statuses_after x.fills (map (status_after_replace r.session r.id)
          (m.statuses ++ entered_status (moved_to place t r) ∷ []));
      last = place;
    }) e)))

-- ---- a replace that keeps its place

pub may_amend : (xs : List Order) (ss : List OrderStatus) (r : Order) (id : List ℕ) (quantity : ℕ) → PlacesDiffer xs
    → HaveStatuses ss xs → Contains xs r → find (has_id r.session id) ss ≡ None → done r < quantity
    → quantity ≤ 999999 →
    CanAmend xs r.place id quantity
may_amend xs ss r id quantity differ known stands unused more most = record {
  order = r;
  stands = stands;
  at = refl;
  each = λ k d lt e. subst (λ (o : Order). done o < quantity)
      (differ r (get_or xs k d) stands (Contains-get_or xs k d lt) (sym e)) more;
  most = most;
  free = unused_rests xs ss r.session id known unused;
}

-- ---- which it is

pub refused_is : (rules : Rules) (xs : List Order) (place : ℕ) (t : Ticket) (instrument : Result Instrument ℕ)
    (r : Order) (reason : ℕ) → Some reason ≡ replace_refusal t r instrument
    → replace_refused reason r xs ≡ replace_of_resting rules xs place t instrument r
refused_is rules xs place t instrument r reason e = by_tests (may_replace t r instrument) (nat_le t.quantity (done r)) e
  where
    by_tests : (a b : Bool) → ◌≡◌ {A = Option ℕ} (Some reason) (cond (not a) (Some 2) (cond b (Some 0) None)) →
        replace_refused reason r xs ≡ cond (not a) (replace_refused 2 r xs)
        (cond b (replace_refused 0 r xs) (cond (keeps_place t r) (keeping_means xs t r)
        (moving_means (moved_to place t r) (clear (implied rules) (references_of rules) (moved_to place t r)
        (removed r.place xs)))))
    by_tests false b e = ap (λ (k : ℕ). replace_refused k r xs) (let k : reason ≡ 2 = cc in k)
    by_tests true true e = ap (λ (k : ℕ). replace_refused k r xs) (let k : reason ≡ 0 = cc in k)
    by_tests true false e = cc

pub taken_up : (rules : Rules) (xs : List Order) (place : ℕ) (t : Ticket) (instrument : Result Instrument ℕ) (r : Order)
    → None ≡ replace_refusal t r instrument →
    cond (keeps_place t r) (keeping_means xs t r) (moving_means (moved_to place t r)
    (clear (implied rules) (references_of rules) (moved_to place t r) (removed r.place xs))) ≡ replace_of_resting
    rules xs place t instrument r
taken_up rules xs place t instrument r e = by_tests (may_replace t r instrument) (nat_le t.quantity (done r)) e
  where
    by_tests : (a b : Bool) → ◌≡◌ {A = Option ℕ} None (cond (not a) (Some 2) (cond b (Some 0) None)) →
        cond (keeps_place t r) (keeping_means xs t r) (moving_means (moved_to place t r)
        (clear (implied rules) (references_of rules) (moved_to place t r) (removed r.place xs)))
        ≡ cond (not a) (replace_refused 2 r xs) (cond b (replace_refused 0 r xs)
        (cond (keeps_place t r) (keeping_means xs t r) (moving_means (moved_to place t r)
        (clear (implied rules) (references_of rules) (moved_to place t r) (removed r.place xs)))))
    by_tests false b e = cc
    by_tests true true e = cc
    by_tests true false e = refl

pub kept_is : (rules : Rules) (xs : List Order) (place : ℕ) (t : Ticket) (instrument : Result Instrument ℕ) (r : Order)
    → None ≡ replace_refusal t r instrument → true ≡ keeps_place t r
    → keeping_means xs t r ≡ replace_of_resting rules xs place t instrument r
kept_is rules xs place t instrument r e k =
    ap (λ (b : Bool). cond b (keeping_means xs t r) (moving_means (moved_to place t r)
    (clear (implied rules) (references_of rules) (moved_to place t r) (removed r.place xs)))) k
    ∙ taken_up rules xs place t instrument r e

pub moved_is : (rules : Rules) (xs : List Order) (place : ℕ) (t : Ticket) (instrument : Result Instrument ℕ) (r : Order)
    → None ≡ replace_refusal t r instrument → false ≡ keeps_place t r →
    moving_means (moved_to place t r) (clear (implied rules) (references_of rules) (moved_to place t r)
    (removed r.place xs)) ≡ replace_of_resting rules xs place t instrument r
moved_is rules xs place t instrument r e k =
    ap (λ (b : Bool). cond b (keeping_means xs t r) (moving_means (moved_to place t r)
    (clear (implied rules) (references_of rules) (moved_to place t r) (removed r.place xs)))) k
    ∙ taken_up rules xs place t instrument r e

-- ---- what the event means

pub replaced_means : (rules : Rules) (m : MarketState) (place session : ℕ) (original : List ℕ) (t : Ticket) (r : Order)
    → find (is_own session original) m.orders ≡ Some r
    → replaced_in rules m place t r ≡ meaning_in rules m place session (Replace original t)
replaced_means rules m place session original t r e =
    ap (λ (n : ℕ). replace_of_resting rules m.orders place t (instrument_or_refusal_of rules m.statuses n t) r)
    (own_is m.orders session original r e).session_is
    ∙ ap (λ (o : Option Order). replace_means rules m.orders place t
    (instrument_or_refusal_of rules m.statuses session t) (find (has_id session original) m.statuses) o) (sym e)

pub replaced_state : (rules : Rules) (m : MarketState) (place session : ℕ) (original : List ℕ) (t : Ticket) (r : Order)
    → find (is_own session original) m.orders ≡ Some r →
    state_with m place r.session (Replace r.id t) (replaced_in rules m place t r) ≡ state_after rules m place session
    (Replace original t)
replaced_state rules m place session original t r e =
    let own = own_is m.orders session original r e in
    ap (state_with m place r.session (Replace r.id t)) (replaced_means rules m place session original t r e)
    ∙ (ap (λ (n : ℕ). state_with m place n (Replace r.id t) (meaning_in rules m place session (Replace original t)))
    own.session_is
    ∙ ap (λ (i : List ℕ). state_with m place session (Replace i t)
    (meaning_in rules m place session (Replace original t))) own.id_is)

pub if_ok : {E : Type 0} (r : Result Outcome E) (a b : Outcome) → a ≡ b → IfOk r (λ (o : Outcome). o ≡ a)
    → IfOk r (λ (o : Outcome). o ≡ b)
if_ok (Ok x) a b e h = h ∙ e
if_ok (Err x) a b e h = tt
