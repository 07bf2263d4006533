use Rattle.std.proofs.Common.{◌≡◌, ℕ, ◌<◌, ◌≤◌, All, Contains, List, ◌++◌, ◌∷◌, [], false, map, length, Option, None, refl, sym, subst, ap, ◌∙◌, arith}
use Rattle.std.specs.List.{find}
use Rattle.std.specs.Option.{is_some}
use Rattle.std.proofs.lemmas.List.Elements.{Contains-append_left}
use Rattle.spread_rules.specs.declared.order.Order.{Order}
use Rattle.spread_rules.specs.declared.fill.Fill.{Fill}
use Rattle.spread_rules.specs.declared.outcome.OrderStatus.{OrderStatus}
use Rattle.spread_rules.specs.Clearing.{clear, removed, Trading}
use Rattle.spread_rules.specs.Meaning.{has_id}
use Rattle.spread_rules.specs.code.Meaning.{moved_to}
use Rattle.spread_rules_rulebook.specs.Rulebook.{month_count, references_of, implied}
use Rattle.spread_match_state.specs.State.{MarketState}
use Rattle.spread_match_orders.specs.code.Entering.{entered_status}
use Rattle.spread_match_statuses.specs.code.Statuses.{status_after_replace, statuses_after}
use Rattle.spread_match_orders.proofs.entries.NewOrder.{below_new, clear_same}
use Rattle.spread_match_state.proofs.entries.OrderAdded.{order_stands, status_stands}
use Rattle.spread_match_state.proofs.entries.ReplacedStates.{moved_newest, moved_rest, moved_state, moved_tradable, room_moved}
use Rattle.spread_match_state.proofs.state.MarketState.lose_place.Goals as goal

-- its id was not used
not_used : (ss was : List OrderStatus) (n m : Order) (used : _) → n ≡ m
    → used ≡ is_some (find (has_id n.session n.id) ss) → ss ≡ was → find (has_id m.session m.id) was ≡ None
    → used ≡ false
not_used ss was n m used same e kept f = e ∙ (ap (λ (o : Order). is_some (find (has_id o.session o.id) ss)) same
    ∙ (ap (λ (xs : List OrderStatus). is_some (find (has_id m.session m.id) xs)) kept
    ∙ ap (λ (o : Option OrderStatus). is_some o) f))

pub add_order-requires : goal.add_order-requires
add_order-requires g c =
    let m = c.args.self.now in
    subst (λ (k : ℕ). All (λ (o : Order). o.place < k) (g.B.Book.orders c.self.inside.book))
    (sym (ap (λ (o : Order). o.place) c.moved_order-order.ensures))
    (subst (λ (xs : List Order). All (λ (o : Order). o.place < c.args.place) xs)
    (sym (ap (λ (x : MarketState). x.orders) c.self.view_is))
    (below_new m.orders m.last c.args.place c.requires.ready.below c.requires.place))

pub remove-requires : goal.remove-requires
remove-requires g c =
    let m = c.args.self.now in
    let n = c.moved_order-order.result in
    let r = c.args.resting.now in
    let used = not_used c.self.inside.statuses m.statuses n (moved_to c.args.place c.args.ticket.now r)
    c.in_ok-add_order.field-0 c.moved_order-order.ensures c.in_ok-add_order.ensures.used
    (ap (λ (x : MarketState). x.statuses) c.self.view_is) c.requires.unused in
    let stands = order_stands c.in_ok-add_order.field-0 (g.B.Book.orders c.self.inside.book)
    (g.B.Book.orders c.add_order.new.book) m.orders n used c.in_ok-add_order.ensures.orders
    (ap (λ (x : MarketState). x.orders) c.self.view_is) in
    record {
      order = r;
      stands = subst (λ (xs : List Order). Contains xs r) (sym stands)
          (Contains-append_left m.orders (n ∷ []) r c.requires.rests);
      at = refl;
    }

pub trade_newest-requires-clause-newest : goal.trade_newest-requires-clause-newest
trade_newest-requires-clause-newest g c =
    let m = c.args.self.now in
    let n = c.moved_order-order.result in
    let r = c.args.resting.now in
    let used = not_used c.self.inside.statuses m.statuses n (moved_to c.args.place c.args.ticket.now r)
    c.in_ok-add_order.field-0 c.moved_order-order.ensures c.in_ok-add_order.ensures.used
    (ap (λ (x : MarketState). x.statuses) c.self.view_is) c.requires.unused in
    let book = c.remove.ensures.gone ∙ ap (removed r.place) (order_stands c.in_ok-add_order.field-0
    (g.B.Book.orders c.self.inside.book) (g.B.Book.orders c.add_order.new.book) m.orders n used
    c.in_ok-add_order.ensures.orders (ap (λ (x : MarketState). x.orders) c.self.view_is)) in
    moved_newest m.orders (g.B.Book.orders c.remove.new.self) m.last c.args.place r n c.requires.ready.below
    c.requires.place c.requires.rests (ap (λ (o : Order). o.place) c.moved_order-order.ensures) book

pub trade_newest-requires-clause-tradable : goal.trade_newest-requires-clause-tradable
trade_newest-requires-clause-tradable g c =
    let m = c.args.self.now in
    let n = c.moved_order-order.result in
    let r = c.args.resting.now in
    let used = not_used c.self.inside.statuses m.statuses n (moved_to c.args.place c.args.ticket.now r)
    c.in_ok-add_order.field-0 c.moved_order-order.ensures c.in_ok-add_order.ensures.used
    (ap (λ (x : MarketState). x.statuses) c.self.view_is) c.requires.unused in
    let book = c.remove.ensures.gone ∙ ap (removed r.place) (order_stands c.in_ok-add_order.field-0
    (g.B.Book.orders c.self.inside.book) (g.B.Book.orders c.add_order.new.book) m.orders n used
    c.in_ok-add_order.ensures.orders (ap (λ (x : MarketState). x.orders) c.self.view_is)) in
    moved_tradable (month_count c.args.rules.now) m.orders (g.B.Book.orders c.remove.new.self) m.last c.args.place
    c.args.ticket.now r n c.requires.ready.tradable c.requires.ready.below c.requires.place c.requires.rests
    c.requires.price c.requires.more c.moved_order-order.ensures book

pub trade_newest-requires-clause-room : goal.trade_newest-requires-clause-room
trade_newest-requires-clause-room g c =
    let m = c.args.self.now in
    let n = c.moved_order-order.result in
    let r = c.args.resting.now in
    let was = ap (λ (x : MarketState). x.orders) c.self.view_is in
    let used = not_used c.self.inside.statuses m.statuses n (moved_to c.args.place c.args.ticket.now r)
    c.in_ok-add_order.field-0 c.moved_order-order.ensures c.in_ok-add_order.ensures.used
    (ap (λ (x : MarketState). x.statuses) c.self.view_is) c.requires.unused in
    let book = c.remove.ensures.gone ∙ ap (removed r.place) (order_stands c.in_ok-add_order.field-0
    (g.B.Book.orders c.self.inside.book) (g.B.Book.orders c.add_order.new.book) m.orders n used
    c.in_ok-add_order.ensures.orders was) in
    let rest = moved_rest m.orders (g.B.Book.orders c.remove.new.self) m.last c.args.place r n c.requires.ready.below
    c.requires.place c.requires.rests (ap (λ (o : Order). o.place) c.moved_order-order.ensures) book in
    let left : n.leaves ≤ c.args.ticket.now.quantity =
    (let e = ap (λ (o : Order). o.leaves) c.moved_order-order.ensures in omega (arith, e)) in
    room_moved m.orders (removed n.place (g.B.Book.orders c.remove.new.self)) r.place _ _ c.min.result c.len.result
    c.args.ticket.now.quantity n.leaves rest c.in_ok-reserve.ensures.ok c.min.ensures
    (c.len.ensures ∙ ap (λ (xs : List Order). length xs) was) left

pub returns-clause-fills : goal.returns-clause-fills
returns-clause-fills g c =
    let m = c.args.self.now in
    let n = c.moved_order-order.result in
    let r = c.args.resting.now in
    let refs = references_of c.args.rules.now in
    let used = not_used c.self.inside.statuses m.statuses n (moved_to c.args.place c.args.ticket.now r)
    c.in_ok-add_order.field-0 c.moved_order-order.ensures c.in_ok-add_order.ensures.used
    (ap (λ (x : MarketState). x.statuses) c.self.view_is) c.requires.unused in
    let book = c.remove.ensures.gone ∙ ap (removed r.place) (order_stands c.in_ok-add_order.field-0
    (g.B.Book.orders c.self.inside.book) (g.B.Book.orders c.add_order.new.book) m.orders n used
    c.in_ok-add_order.ensures.orders (ap (λ (x : MarketState). x.orders) c.self.view_is)) in
    let rest = moved_rest m.orders (g.B.Book.orders c.remove.new.self) m.last c.args.place r n c.requires.ready.below
    c.requires.place c.requires.rests (ap (λ (o : Order). o.place) c.moved_order-order.ensures) book in
    let same = clear_same (implied c.args.rules.now) refs refs n (moved_to c.args.place c.args.ticket.now r)
    (removed n.place (g.B.Book.orders c.remove.new.self)) (removed r.place m.orders) refl
    c.moved_order-order.ensures rest in
    c.trade_newest.ensures.fills
    ∙ (ap (λ (fs : List Fill). fs ++ (clear (implied c.args.rules.now) refs n
    (removed n.place (g.B.Book.orders c.remove.new.self))).fills) c.reserve.ensures.items
    ∙ ap (λ (d : Trading). c.args.fills.now.items ++ d.fills) same)

pub returns-clause-after : goal.returns-clause-after
returns-clause-after g c =
    let m = c.args.self.now in
    let n = c.moved_order-order.result in
    let r = c.args.resting.now in
    let made = c.trade_newest.new.book in
    let refs = references_of c.args.rules.now in
    let kept = ap (λ (x : MarketState). x.statuses) c.self.view_is in
    let used = not_used c.self.inside.statuses m.statuses n (moved_to c.args.place c.args.ticket.now r)
    c.in_ok-add_order.field-0 c.moved_order-order.ensures c.in_ok-add_order.ensures.used kept c.requires.unused in
    let book = c.remove.ensures.gone ∙ ap (removed r.place) (order_stands c.in_ok-add_order.field-0
    (g.B.Book.orders c.self.inside.book) (g.B.Book.orders c.add_order.new.book) m.orders n used
    c.in_ok-add_order.ensures.orders (ap (λ (x : MarketState). x.orders) c.self.view_is)) in
    let rest = moved_rest m.orders (g.B.Book.orders c.remove.new.self) m.last c.args.place r n c.requires.ready.below
    c.requires.place c.requires.rests (ap (λ (o : Order). o.place) c.moved_order-order.ensures) book in
    let d = clear (implied c.args.rules.now) refs n (removed n.place (g.B.Book.orders c.remove.new.self)) in
    let same : d ≡ clear (implied c.args.rules.now) refs (moved_to c.args.place c.args.ticket.now r)
    (removed r.place m.orders) =
    clear_same (implied c.args.rules.now) refs refs n (moved_to c.args.place c.args.ticket.now r)
    (removed n.place (g.B.Book.orders c.remove.new.self)) (removed r.place m.orders) refl
    c.moved_order-order.ensures rest in
    let statuses : c.trade_newest.new.statuses ≡ statuses_after d.fills
    (map (status_after_replace r.session r.id) (m.statuses ++ entered_status n ∷ [])) =
    c.trade_newest.ensures.statuses
    ∙ ap (statuses_after d.fills) (c.mark_replaced.ensures
    ∙ ap (map (status_after_replace r.session r.id)) (status_stands c.in_ok-add_order.field-0 c.self.inside.statuses
    c.add_order.new.statuses m.statuses n used c.in_ok-add_order.ensures.statuses kept)) in
    let quotes : g.B.Book.quotes_by made ≡ m.quotes_by = c.trade_newest.ensures.rules ∙ (c.remove.ensures.rules
    ∙ (c.add_order.ensures.rules ∙ ap (λ (x : MarketState). x.quotes_by) c.self.view_is)) in
    moved_state c.args.rules.now m c.args.place c.args.ticket.now r n (g.B.Book.orders made) c.trade_newest.new.statuses
    (g.B.Book.quotes_by made) d c.moved_order-order.ensures same c.trade_newest.ensures.orders statuses quotes
