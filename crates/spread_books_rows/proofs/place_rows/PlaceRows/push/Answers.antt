use Rattle.std.proofs.Common.{◌≡◌, ◌+◌, ◌++◌, ◌∷◌, [], true, List, length, ap, sym, ◌∙◌, subst, arith}
use Rattle.spread_rules.specs.declared.order.Order.{Order}
use Rattle.spread_books_rows.specs.declared.row.Row.{Row}
use Rattle.spread_books_rows.specs.Places.{Ascends}
use Rattle.spread_books_rows.specs.code.Rows.{live, Rises}
use Rattle.spread_books_rows.proofs.places.RowsByPlace.{live_within, live_push, ascends_live, longer}
use Rattle.spread_books_rows.proofs.RisingRows.{rises_push}
use Rattle.spread_books_rows.proofs.place_rows.PlaceRows.push.Goals as goal

pub overflow_add-self : goal.overflow_add-self
overflow_add-self g c =
    let a = live_within c.make_way.new.rows.items in
    let e = ap (λ (xs : List Order). length xs) c.make_way.ensures.live in
    let b = c.self.invariant.1 in
    let l = c.len-at.ensures in
    omega (arith, a, b, e, l, c.len-at.type_inv)

pub invariant_of-self-2 : goal.invariant_of-self-2
invariant_of-self-2 g c =
    let rows = c.make_way.new.rows.items in
    let row : Row = record { order = c.args.order; rests = true } in
    let items : c.push.new.self.items ≡ rows ++ row ∷ [] = c.in_ok-push.ensures.items in (
      subst (λ (rs : List Row). Rises rs) (sym items) (rises_push (λ (r : Row). r.order.place) rows row
          c.make_way.ensures.rises c.make_way.ensures.below),
      let n : length (live c.push.new.self.items) ≡ length (live rows) + 1 =
          ap (λ (rs : List Row). length (live rs)) items ∙ longer rows c.args.order in
          let e = ap (λ (xs : List Order). length xs) c.make_way.ensures.live in
          let b = c.self.invariant.1 in
          omega (arith, n, e, b),
    )

pub returns-clause-ok : goal.returns-clause-ok
returns-clause-ok g c =
    let rows = c.make_way.new.rows.items in
    ap (λ (rs : List Row). live rs) c.in_ok-push.ensures.items ∙ live_push rows c.args.order
    ∙ ap (λ (xs : List Order). xs ++ c.args.order ∷ []) (c.make_way.ensures.live ∙ c.self.view_is)

pub returns-clause-ascends : goal.returns-clause-ascends
returns-clause-ascends g c =
    let rows = c.make_way.new.rows.items in
    let row : Row = record { order = c.args.order; rests = true } in
    subst (λ (rs : List Row). Ascends (live rs)) (sym c.in_ok-push.ensures.items)
    (ascends_live (rows ++ row ∷ []) (rises_push (λ (r : Row). r.order.place) rows row c.make_way.ensures.rises
    c.make_way.ensures.below))
