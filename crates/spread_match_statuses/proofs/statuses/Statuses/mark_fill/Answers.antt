use Rattle.std.proofs.Common.{◌≡◌, ℕ, List, map, set, subst, sym, ap, ◌∙◌, arith}
use Rattle.std.proofs.lemmas.Option.{slice_get_within}
use Rattle.spread_rules.specs.declared.outcome.OrderStatus.{OrderStatus}
use Rattle.spread_match_statuses.specs.code.Statuses.{status_after_fill, AreRefusedLater, IsIndex, IsAcceptedRow}
use Rattle.spread_match_statuses.proofs.status_rows.MarkedRows.{later_marked, index_marked, none_marked}
use Rattle.spread_match_statuses.proofs.status_rows.MarksOfEntries.{leaves_some, set_filled, fill_keeps, fill_key, fill_marks}
use Rattle.spread_match_statuses.proofs.statuses.Statuses.mark_fill.Given.{Over}
use Rattle.spread_match_statuses.proofs.statuses.Statuses.mark_fill.Goals as goal
use Rattle.spread_match_statuses.proofs.statuses.Statuses.mark_fill.Goals.{After-self-1}

pub returns-then-fill-gt0 : goal.returns-then-fill-gt0
returns-then-fill-gt0 g c = leaves_some c.args.fill.now c.args.self.now (let k = c.if-fill-gt0.true in omega (arith, k))

row : (ss view : List OrderStatus) (session : ℕ) (id : List ℕ) (at : ℕ) → ss ≡ view → IsAcceptedRow view session id at
    → IsAcceptedRow ss session id at
row ss view session id at e o = subst (λ (xs : List OrderStatus). IsAcceptedRow xs session id at) (sym e) o

pub index_mut-requires : goal.index_mut-requires
index_mut-requires g c =
    let o = row c.self.inside.rows.items c.args.self.now c.args.fill.now.session c.args.fill.now.id c.in-Some.at
    c.self.view_is c.in-Some.ensures.stands in
    let lt = slice_get_within c.self.inside.rows.items c.in-Some.at o.status o.stands in
    let len = c.self.inside.rows.ok.0 in
    omega (arith, lt, len)

marked : (g : Over) (c : After-self-1 g) → set c.self.inside.rows.items c.in-Some.at
    (record c.index_mut.result.now { status = 2 }) ≡ map (status_after_fill c.args.fill.now) c.self.inside.rows.items
marked g c = set_filled c.args.fill.now c.self.inside.rows.items c.in-Some.at c.index_mut.result.now
    (row c.self.inside.rows.items c.args.self.now c.args.fill.now.session c.args.fill.now.id c.in-Some.at c.self.view_is
    c.in-Some.ensures.stands) c.self.invariant.0 (let k = c.if-fill-gt0.false in omega (arith, k))
    c.index_mut.ensures.value

pub invariant_of-self : goal.invariant_of-self
invariant_of-self g c =
    let rows = c.self.inside.rows.items in
    let f = c.args.fill.now in (
      subst AreRefusedLater (sym (marked g c)) (later_marked (status_after_fill f) rows (fill_keeps f)
          c.self.invariant.0),
      subst (IsIndex c.self.inside.first) (sym (marked g c))
          (index_marked (status_after_fill f) c.self.inside.first rows (fill_keeps f) (fill_key f) c.self.invariant.1),
    )

pub returns-in-Some : goal.returns-in-Some
returns-in-Some g c = marked g c ∙ ap (map (status_after_fill c.args.fill.now)) c.self.view_is

pub returns-in_default : goal.returns-in_default
returns-in_default g c = sym (none_marked c.args.fill.now.session c.args.fill.now.id (status_after_fill c.args.fill.now)
    c.args.self.now (fill_marks c.args.fill.now) c.in_default.ensures.none)
