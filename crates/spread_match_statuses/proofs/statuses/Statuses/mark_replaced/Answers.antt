use Rattle.std.proofs.Common.{◌≡◌, ℕ, List, map, set, subst, sym, ap, ◌∙◌}
use Rattle.spread_rules.specs.declared.outcome.OrderStatus.{OrderStatus}
use Rattle.spread_match_statuses.specs.code.Statuses.{status_after_replace, AreRefusedLater, IsIndex, IsAcceptedRow}
use Rattle.spread_match_statuses.proofs.status_rows.MarkedRows.{later_marked, index_marked, none_marked}
use Rattle.spread_match_statuses.proofs.status_rows.MarksOfEntries.{set_replaced, none_replaced, replace_keeps, replace_key, replace_marks}
use Rattle.spread_match_statuses.proofs.statuses.Statuses.mark_replaced.Given.{Over}
use Rattle.spread_match_statuses.proofs.statuses.Statuses.mark_replaced.Goals as goal
use Rattle.spread_match_statuses.proofs.statuses.Statuses.mark_replaced.Goals.{After-self-1}

row : (ss view : List OrderStatus) (session : ℕ) (id : List ℕ) (at : ℕ) → ss ≡ view → IsAcceptedRow view session id at
    → IsAcceptedRow ss session id at
row ss view session id at e o = subst (λ (xs : List OrderStatus). IsAcceptedRow xs session id at) (sym e) o

marked : (g : Over) (c : After-self-1 g) → set c.self.inside.rows.items c.in-Some.at
    (record c.index_mut.result.now { status = 5 }) ≡ map
    (status_after_replace c.args.order.now.session c.args.order.now.id) c.self.inside.rows.items
marked g c =
    set_replaced c.args.order.now.session c.args.order.now.id c.self.inside.rows.items c.in-Some.at c.index.result.now
    (row c.self.inside.rows.items c.args.self.now c.args.order.now.session c.args.order.now.id c.in-Some.at
    c.self.view_is c.in-Some.ensures.stands) c.self.invariant.0 (sym c.index.ensures)
    c.if-index-eq-WHEN_IT_RESTS_NO_MORE.true
    c.index_mut.result.now c.index_mut.ensures.value

pub invariant_of-self : goal.invariant_of-self
invariant_of-self g c =
    let rows = c.self.inside.rows.items in
    let session = c.args.order.now.session in
    let id = c.args.order.now.id in (
      subst AreRefusedLater (sym (marked g c)) (later_marked (status_after_replace session id) rows
          (replace_keeps session id) c.self.invariant.0),
      subst (IsIndex c.self.inside.first) (sym (marked g c))
          (index_marked (status_after_replace session id) c.self.inside.first rows (replace_keeps session id)
          (replace_key session id) c.self.invariant.1),
    )

pub returns-then-index-eq-WHEN_IT_RESTS_NO_MORE : goal.returns-then-index-eq-WHEN_IT_RESTS_NO_MORE
returns-then-index-eq-WHEN_IT_RESTS_NO_MORE g c = marked g c ∙ ap
    (map (status_after_replace c.args.order.now.session c.args.order.now.id)) c.self.view_is

pub returns-else-index-eq-WHEN_IT_RESTS_NO_MORE : goal.returns-else-index-eq-WHEN_IT_RESTS_NO_MORE
returns-else-index-eq-WHEN_IT_RESTS_NO_MORE g c =
    sym c.self.view_is
    ∙ (none_replaced c.args.order.now.session c.args.order.now.id c.self.inside.rows.items c.in-Some.at
    c.index.result.now (row c.self.inside.rows.items c.args.self.now c.args.order.now.session c.args.order.now.id
    c.in-Some.at c.self.view_is c.in-Some.ensures.stands) c.self.invariant.0 c.index.ensures
    c.if-index-eq-WHEN_IT_RESTS_NO_MORE.false
    ∙ ap (map (status_after_replace c.args.order.now.session c.args.order.now.id)) c.self.view_is)

pub returns-in_default : goal.returns-in_default
returns-in_default g c = sym (none_marked c.args.order.now.session c.args.order.now.id
    (status_after_replace c.args.order.now.session c.args.order.now.id) c.args.self.now
    (replace_marks c.args.order.now.session c.args.order.now.id) c.in_default.ensures.none)
