use Rattle.std.proofs.Common.{◌≡◌, ◌≢◌, ◌==◌, ◌<◌, not, cond, Bool, true, false, ℕ, List, All, length, get_or, set, Some, None, refl, ap, sym, ◌∙◌, subst, arith}
use Rattle.std.specs.List.{find}
use Rattle.spread_rules.specs.declared.order.Order.{Order}
use Rattle.spread_rules.specs.Clearing.{reduced}
use Rattle.spread_books_rows.specs.declared.row.Row.{Row}
use Rattle.spread_books_rows.specs.Places.{Ascends}
use Rattle.spread_books_rows.specs.code.Rows.{live}
use Rattle.spread_books_rows.proofs.places.ChangedAt.{less}
use Rattle.spread_books_rows.proofs.places.RowsByPlace.{found_nowhere, found, missing, has_place, changed_kept, changed_row, ascends_live, more_left, same_row}
use Rattle.spread_books_rows.proofs.place_rows.PlaceRows.reduce.Goals as goal

by_not : (b d : Bool) → not b ≡ d → b ≡ not d
by_not true d h = ap not h
by_not false d h = ap not h

pub returns-in_err-at : goal.returns-in_err-at
returns-in_err-at g c = absurd (missing c.args.self.now c.args.place
    (subst (λ (xs : List Order). find (λ (o : Order). o.place == c.args.place) xs ≡ None) c.self.view_is
    (found_nowhere c.self.inside.rows.items c.args.place
    (subst (λ (rs : List Row). All (λ (r : Row). r.order.place ≢ c.args.place) rs) c.deref.ensures.value
    c.in_err-at.ensures.none))) (has_place c.args.self.now c.args.place c.args.by c.requires))

pub returns-then-not-was : goal.returns-then-not-was
returns-then-not-was g c = absurd (missing c.args.self.now c.args.place
    (found c.self.inside.rows.items c.args.self.now c.in_ok-at.at c.args.place c.index-was.result.now c.self.view_is
    c.self.invariant.0 (subst (λ (rs : List Row). c.in_ok-at.at < length rs) c.deref.ensures.value
    c.in_ok-at.ensures.within) c.index-was.ensures (subst
    (λ (rs : List Row). (get_or rs c.in_ok-at.at c.index-was.result.now).order.place ≡ c.args.place)
    c.deref.ensures.value (c.in_ok-at.ensures.at c.index-was.result.now))
    ∙ ap (λ b. cond b (Some c.index-was.result.now.order) None)
    (by_not c.index-was.result.now.rests true c.if-not-was.true))
    (has_place c.args.self.now c.args.place c.args.by c.requires))

pub invariant_of-self : goal.invariant_of-self
invariant_of-self g c = let k = changed_kept (less c.args.by) (λ o. refl) c.self.inside.rows.items c.in_ok-at.at
    c.self.inside.count c.index-was.result.now c.index_mut.result.now c.self.invariant.0
    (subst (λ (rs : List Row). c.in_ok-at.at < length rs) c.deref.ensures.value c.in_ok-at.ensures.within)
    c.index-was.ensures c.index_mut.ensures.value (by_not c.index-was.result.now.rests false c.if-not-was.false)
    c.self.invariant.1 in (k.rises, k.count)

pub returns : goal.returns
returns g c =
    let k = changed_kept (less c.args.by) (λ o. refl) c.self.inside.rows.items c.in_ok-at.at c.self.inside.count
    c.index-was.result.now c.index_mut.result.now c.self.invariant.0
    (subst (λ (rs : List Row). c.in_ok-at.at < length rs) c.deref.ensures.value c.in_ok-at.ensures.within)
    c.index-was.ensures c.index_mut.ensures.value (by_not c.index-was.result.now.rests false c.if-not-was.false)
    c.self.invariant.1 in
    let p : c.index_mut.result.now.order.place ≡ c.args.place =
    ap (λ (r : Row). r.order.place) c.index_mut.ensures.value
    ∙ (subst (λ (rs : List Row). (get_or rs c.in_ok-at.at c.index_mut.result.now).order.place ≡ c.args.place)
    c.deref.ensures.value (c.in_ok-at.ensures.at c.index_mut.result.now)) in
    record {
      book = subst (λ (ys : List Order). live (set c.self.inside.rows.items c.in_ok-at.at
          (changed_row (less c.args.by) c.index_mut.result.now)) ≡ reduced c.args.place c.args.by ys) c.self.view_is
          (subst (λ (p : ℕ). live (set c.self.inside.rows.items c.in_ok-at.at
          (changed_row (less c.args.by) c.index_mut.result.now)) ≡ reduced p c.args.by (live c.self.inside.rows.items))
          p k.live);
      was = sym (found c.self.inside.rows.items c.args.self.now c.in_ok-at.at c.args.place c.index-was.result.now
          c.self.view_is c.self.invariant.0 (subst (λ (rs : List Row). c.in_ok-at.at < length rs) c.deref.ensures.value
          c.in_ok-at.ensures.within) c.index-was.ensures (subst
          (λ (rs : List Row). (get_or rs c.in_ok-at.at c.index-was.result.now).order.place ≡ c.args.place)
          c.deref.ensures.value (c.in_ok-at.ensures.at c.index-was.result.now))
          ∙ ap (λ b. cond b (Some c.index-was.result.now.order) None)
          (by_not c.index-was.result.now.rests false c.if-not-was.false));
      ordered = subst (λ (ys : List Order). Ascends ys) c.self.view_is
          (ascends_live c.self.inside.rows.items c.self.invariant.0);
    }

pub overflow_sub-index_mut : goal.overflow_sub-index_mut
overflow_sub-index_mut g c =
    let m : c.args.by < c.index-was.result.now.order.leaves =
    more_left c.self.inside.rows.items c.args.self.now c.in_ok-at.at c.args.place c.args.by c.index-was.result.now
    c.self.view_is (subst (λ (rs : List Row). c.in_ok-at.at < length rs) c.deref.ensures.value
    c.in_ok-at.ensures.within) c.index-was.ensures (subst
    (λ (rs : List Row). (get_or rs c.in_ok-at.at c.index-was.result.now).order.place ≡ c.args.place)
    c.deref.ensures.value (c.in_ok-at.ensures.at c.index-was.result.now))
    (by_not c.index-was.result.now.rests false c.if-not-was.false) c.requires in
    let e = ap (λ (r : Row). r.order.leaves) (same_row c.self.inside.rows.items c.in_ok-at.at c.index_mut.result.now
    c.index-was.result.now (subst (λ (rs : List Row). c.in_ok-at.at < length rs) c.deref.ensures.value
    c.in_ok-at.ensures.within) c.index_mut.ensures.value c.index-was.ensures) in
    omega (arith, m, e)
