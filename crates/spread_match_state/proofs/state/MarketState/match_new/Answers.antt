use Rattle.std.proofs.Common.{◌≡◌, ℕ, ◌<◌, ◌≤◌, List, All, ◌++◌, ◌∷◌, [], false, length, refl, sym, subst, ap, ◌∙◌}
use Rattle.std.specs.List.{find}
use Rattle.std.specs.Option.{is_some}
use Rattle.spread_rules.specs.declared.order.Order.{Order}
use Rattle.spread_rules.specs.declared.outcome.OrderStatus.{OrderStatus}
use Rattle.spread_rules_rulebook.specs.declared.instrument.Instrument.{Instrument}
use Rattle.spread_rules.specs.declared.fill.Fill.{Fill}
use Rattle.spread_rules.specs.declared.event.Ticket.{Ticket}
use Rattle.spread_rules.specs.declared.event.Event.TheVariants.{New}
use Rattle.spread_rules.specs.code.Cases.{clearing_means}
use Rattle.spread_rules.specs.code.Candidates.{HasOrderPrice}
use Rattle.spread_rules.specs.Clearing.{clear, removed, Trading}
use Rattle.spread_rules.specs.Meaning.{EntryMeaning, has_id, order_of, outcome_of}
use Rattle.spread_rules.specs.code.Meaning.{resting}
use Rattle.spread_rules_rulebook.specs.Rulebook.{Rules, month_count, references_of, implied}
use Rattle.spread_books_search.specs.Listed.{IsNearFirst, IsInMonths}
use Rattle.spread_match_state.specs.State.{MarketState}
use Rattle.spread_match_trading.specs.Tradable.{IsTradable}
use Rattle.spread_match_state.specs.code.StateAfter.{matched_in, state_with}
use Rattle.spread_match_orders.specs.code.Entering.{entered_status, trading_of}
use Rattle.spread_match_statuses.specs.code.Statuses.{statuses_after}
use Rattle.spread_match_state.proofs.entries.IdNotUsed.{id_is_new}
use Rattle.spread_match_state.proofs.entries.OrderAdded.{order_stands, status_stands}
use Rattle.spread_match_orders.proofs.entries.NewOrder.{below_new, clear_same, rest_is, room_new, tradable_more}
use Rattle.spread_match_state.proofs.entries.ReplacedStates.{matched_state}
use Rattle.spread_match_state.proofs.state.MarketState.match_new.Goals as goal

module _ (rules : Rules) (m : MarketState) (place session : ℕ) (t : Ticket) (i : Instrument) (n : Order)
    (same : n ≡ order_of place session t i) where
  -- how it is traded
  traded : (book : List Order) → book ≡ m.orders ++ n ∷ [] → m.last < place → All (λ o. o.place ≤ m.last) m.orders
      → trading_of rules n book ≡ clear (implied rules) (references_of rules) (order_of place session t i) m.orders
  traded book stands later below =
      clear_same (implied rules) (references_of rules) (references_of rules) n _ (removed n.place book) m.orders refl
      same (rest_is n place m.last book m.orders (ap (λ (o : Order). o.place) same) later below stands)

  -- an id that was not used is matched
  not_used : (ss : List OrderStatus) (used : _) → used ≡ is_some (find (has_id n.session n.id) ss)
      → ss ≡ m.statuses → used ≡ false → matched_in rules m place session t i ≡ clearing_means t.immediate
      (clear (implied rules) (references_of rules) (order_of place session t i) m.orders)
  not_used ss used e was f =
      id_is_new (find (has_id session t.id) m.statuses) m.orders _
      (ap (λ (xs : List OrderStatus). is_some (find (has_id session t.id) xs)) (sym was)
      ∙ (ap (λ (o : Order). is_some (find (has_id o.session o.id) ss)) (sym same) ∙ (sym e ∙ f)))

pub trade_newest-left-requires-clause-tradable : goal.trade_newest-left-requires-clause-tradable
trade_newest-left-requires-clause-tradable g c =
    let m = c.args.self.now in
    let n = c.new_order-order.result in
    let months = month_count c.args.rules.now in
    let at = ap (λ (o : Order). o.place) c.new_order-order.ensures in
    subst (IsTradable months) (sym (order_stands c.in_ok-used.used (g.B.Book.orders c.self.inside.book)
    (g.B.Book.orders c.add_order.new.book) m.orders n c.if-used.false c.in_ok-used.ensures.orders
    (ap (λ (x : MarketState). x.orders) c.self.view_is)))
    (tradable_more months m.orders n c.requires.ready.tradable
    (subst (λ (k : ℕ). All (λ (o : Order). o.place < k) m.orders) (sym at)
    (below_new m.orders m.last c.args.new.now.place c.requires.ready.below c.requires.place))
    (subst HasOrderPrice (sym c.new_order-order.ensures)
    (record { low = c.requires.price.low; high = c.requires.price.high }))
    (subst IsNearFirst (sym c.new_order-order.ensures) (record { near_before_far = c.requires.listed }))
    (subst (λ (o : Order). IsInMonths months o.instrument) (sym c.new_order-order.ensures) c.requires.within)
    (subst (λ (o : Order). 0 < o.leaves) (sym c.new_order-order.ensures) c.requires.some))

pub trade_newest-left-requires-clause-room : goal.trade_newest-left-requires-clause-room
trade_newest-left-requires-clause-room g c =
    let m = c.args.self.now in
    let n = c.new_order-order.result in
    let after = g.B.Book.orders c.add_order.new.book in
    let at = ap (λ (o : Order). o.place) c.new_order-order.ensures in
    let was = ap (λ (x : MarketState). x.orders) c.self.view_is in
    let rest : removed n.place after ≡ m.orders =
    rest_is n c.args.new.now.place m.last after m.orders at c.requires.place c.requires.ready.below
    (order_stands c.in_ok-used.used (g.B.Book.orders c.self.inside.book) after m.orders n c.if-used.false
    c.in_ok-used.ensures.orders was) in
    room_new _ _ c.min.result c.len.result c.args.new.now.ticket.now.quantity n.leaves (length (removed n.place after))
    c.in_ok-reserve.ensures.ok c.min.ensures
    (c.len.ensures ∙ (ap (λ (ys : List Order). length ys) was ∙ ap (λ (ys : List Order). length ys) (sym rest)))
    (ap (λ (o : Order). o.leaves) c.new_order-order.ensures)

pub returns-clause-outcome : goal.returns-clause-outcome
returns-clause-outcome g c =
    let m = c.args.self.now in
    let t = c.args.new.now.ticket.now in
    let n = c.new_order-order.result in
    let after = g.B.Book.orders c.add_order.new.book in
    let same = traded c.args.rules.now m c.args.new.now.place c.args.new.now.session t c.args.new.now.instrument n
    c.new_order-order.ensures after
    (order_stands c.in_ok-used.used (g.B.Book.orders c.self.inside.book) after m.orders n c.if-used.false
    c.in_ok-used.ensures.orders (ap (λ (x : MarketState). x.orders) c.self.view_is))
    c.requires.place c.requires.ready.below in
    c.outcome_with.ensures
    ∙ (ap (outcome_of t.immediate) (c.trade_newest-left.ensures.left ∙ ap (λ (d : Trading). d.new.leaves) same)
    ∙ ap (λ (e : EntryMeaning). e.outcome) (sym (not_used c.args.rules.now m c.args.new.now.place c.args.new.now.session
    t c.args.new.now.instrument n c.new_order-order.ensures c.self.inside.statuses c.in_ok-used.used
    c.in_ok-used.ensures.used (ap (λ (x : MarketState). x.statuses) c.self.view_is) c.if-used.false)))

pub returns-clause-fills : goal.returns-clause-fills
returns-clause-fills g c =
    let m = c.args.self.now in
    let t = c.args.new.now.ticket.now in
    let n = c.new_order-order.result in
    let after = g.B.Book.orders c.add_order.new.book in
    let same = traded c.args.rules.now m c.args.new.now.place c.args.new.now.session t c.args.new.now.instrument n
    c.new_order-order.ensures after
    (order_stands c.in_ok-used.used (g.B.Book.orders c.self.inside.book) after m.orders n c.if-used.false
    c.in_ok-used.ensures.orders (ap (λ (x : MarketState). x.orders) c.self.view_is))
    c.requires.place c.requires.ready.below in
    c.trade_newest-left.ensures.fills
    ∙ (ap (λ (fs : List Fill). fs ++ (trading_of c.args.rules.now n after).fills) c.reserve.ensures.items
    ∙ (ap (λ (d : Trading). c.args.fills.now.items ++ d.fills) same
    ∙ ap (λ (e : EntryMeaning). c.args.fills.now.items ++ e.fills)
    (sym (not_used c.args.rules.now m c.args.new.now.place c.args.new.now.session t c.args.new.now.instrument n
    c.new_order-order.ensures c.self.inside.statuses c.in_ok-used.used c.in_ok-used.ensures.used
    (ap (λ (x : MarketState). x.statuses) c.self.view_is) c.if-used.false))))

pub returns-clause-after : goal.returns-clause-after
returns-clause-after g c =
    let m = c.args.self.now in
    let t = c.args.new.now.ticket.now in
    let i = c.args.new.now.instrument in
    let place = c.args.new.now.place in
    let session = c.args.new.now.session in
    let n = c.new_order-order.result in
    let after = g.B.Book.orders c.add_order.new.book in
    let was = ap (λ (x : MarketState). x.statuses) c.self.view_is in
    let d = clear (implied c.args.rules.now) (references_of c.args.rules.now) (order_of place session t i) m.orders in
    let same = traded c.args.rules.now m place session t i n c.new_order-order.ensures after
    (order_stands c.in_ok-used.used (g.B.Book.orders c.self.inside.book) after m.orders n c.if-used.false
    c.in_ok-used.ensures.orders (ap (λ (x : MarketState). x.orders) c.self.view_is))
    c.requires.place c.requires.ready.below in
    let orders : g.B.Book.orders c.trade_newest-left.new.book ≡ resting t.immediate d =
    c.trade_newest-left.ensures.orders ∙ ap (λ (x : Trading). resting t.immediate x) same in
    let statuses : c.trade_newest-left.new.statuses ≡ statuses_after d.fills
    (m.statuses ++ entered_status (order_of place session t i) ∷ []) =
    c.trade_newest-left.ensures.statuses
    ∙ (ap (λ (x : Trading). statuses_after x.fills c.add_order.new.statuses) same
    ∙ (ap (statuses_after d.fills) (status_stands c.in_ok-used.used c.self.inside.statuses c.add_order.new.statuses
    m.statuses n c.if-used.false c.in_ok-used.ensures.statuses was)
    ∙ ap (λ (o : Order). statuses_after d.fills (m.statuses ++ entered_status o ∷ [])) c.new_order-order.ensures)) in
    let quotes : g.B.Book.quotes_by c.trade_newest-left.new.book ≡ m.quotes_by =
    c.trade_newest-left.ensures.rules ∙ (c.add_order.ensures.rules
    ∙ ap (λ (x : MarketState). x.quotes_by) c.self.view_is) in
    matched_state m place session t i (g.B.Book.orders c.trade_newest-left.new.book) c.trade_newest-left.new.statuses
    (g.B.Book.quotes_by c.trade_newest-left.new.book) d orders statuses quotes
    ∙ ap (state_with m place session (New t))
    (sym (not_used c.args.rules.now m place session t i n c.new_order-order.ensures c.self.inside.statuses
    c.in_ok-used.used c.in_ok-used.ensures.used was c.if-used.false))
