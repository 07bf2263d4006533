use Rattle.std.proofs.Common.{◌≡◌, ◌≢◌, ◌==◌, ◌<◌, cond, List, All, length, get_or, Some, None, ap, sym, ◌∙◌, subst}
use Rattle.std.specs.List.{find}
use Rattle.std.specs.Option.{option_copied}
use Rattle.spread_rules.specs.declared.order.Order.{Order}
use Rattle.spread_books_rows.specs.declared.row.Row.{Row}
use Rattle.spread_books_rows.specs.Places.{Ascends}
use Rattle.spread_books_rows.proofs.places.RowsByPlace.{found_nowhere, found, ascends_live}
use Rattle.spread_books_rows.proofs.place_rows.PlaceRows.get.Goals as goal

pub returns-in_err-at-clause-found : goal.returns-in_err-at-clause-found
returns-in_err-at-clause-found g c = ap option_copied c.from_residual.ensures
    ∙ sym (subst (λ (xs : List Order). find (λ (o : Order). o.place == c.args.place) xs ≡ None) c.self.view_is
    (found_nowhere c.self.inside.rows.items c.args.place
    (subst (λ (rs : List Row). All (λ (r : Row). r.order.place ≢ c.args.place) rs) c.deref.ensures.value
    c.in_err-at.ensures.none)))

pub returns-then-row-clause-found : goal.returns-then-row-clause-found
returns-then-row-clause-found g c = sym (found c.self.inside.rows.items c.args.self.now c.in_ok-at.at c.args.place
    c.index-row.result.now c.self.view_is c.self.invariant.0
    (subst (λ (rs : List Row). c.in_ok-at.at < length rs) c.deref.ensures.value c.in_ok-at.ensures.within)
    c.index-row.ensures (subst (λ (rs : List Row). (get_or rs c.in_ok-at.at c.index-row.result.now).order.place ≡
    c.args.place) c.deref.ensures.value (c.in_ok-at.ensures.at c.index-row.result.now))
    ∙ ap (λ b. cond b (Some c.index-row.result.now.order) None) c.if-row.true)

pub returns-else-row-clause-found : goal.returns-else-row-clause-found
returns-else-row-clause-found g c = sym (found c.self.inside.rows.items c.args.self.now c.in_ok-at.at c.args.place
    c.index-row.result.now c.self.view_is c.self.invariant.0
    (subst (λ (rs : List Row). c.in_ok-at.at < length rs) c.deref.ensures.value c.in_ok-at.ensures.within)
    c.index-row.ensures (subst (λ (rs : List Row). (get_or rs c.in_ok-at.at c.index-row.result.now).order.place ≡
    c.args.place) c.deref.ensures.value (c.in_ok-at.ensures.at c.index-row.result.now))
    ∙ ap (λ b. cond b (Some c.index-row.result.now.order) None) c.if-row.false)

pub returns-in_err-at-clause-ordered : goal.returns-in_err-at-clause-ordered
returns-in_err-at-clause-ordered g c = subst (λ (ys : List Order). Ascends ys) c.self.view_is
    (ascends_live c.self.inside.rows.items c.self.invariant.0)

pub returns-then-row-clause-ordered : goal.returns-then-row-clause-ordered
returns-then-row-clause-ordered g c = subst (λ (ys : List Order). Ascends ys) c.self.view_is
    (ascends_live c.self.inside.rows.items c.self.invariant.0)

pub returns-else-row-clause-ordered : goal.returns-else-row-clause-ordered
returns-else-row-clause-ordered g c = subst (λ (ys : List Order). Ascends ys) c.self.view_is
    (ascends_live c.self.inside.rows.items c.self.invariant.0)
