use Rattle.std.proofs.Common.{◌≡◌, ◌≢◌, ◌==◌, ◌<◌, cond, ℕ, List, All, length, get_or, set, Some, None, refl, ap, sym, ◌∙◌, subst}
use Rattle.std.specs.List.{find}
use Rattle.spread_rules.specs.declared.order.Order.{Order}
use Rattle.spread_books_rows.specs.declared.row.Row.{Row}
use Rattle.spread_rules.specs.Amended.{with_quantity}
use Rattle.spread_rules.specs.code.Amended.{amended}
use Rattle.spread_books_rows.specs.Places.{Ascends}
use Rattle.spread_books_rows.specs.code.Rows.{live, Rises}
use Rattle.spread_books_rows.proofs.places.ChangedAt.{changed}
use Rattle.spread_books_rows.proofs.places.RowsByPlace.{found_nowhere, found, missing, changed_kept, changed_row, ascends_live, same_row}
use Rattle.spread_books_rows.proofs.place_rows.PlaceRows.amend.Given.{Over}
use Rattle.spread_books_rows.proofs.place_rows.PlaceRows.amend.Goals as goal

pub returns-in_err-at : goal.returns-in_err-at
returns-in_err-at g c = absurd (missing c.args.self.now c.args.place
    (subst (λ (xs : List Order). find (λ (o : Order). o.place == c.args.place) xs ≡ None) c.self.view_is
    (found_nowhere c.self.inside.rows.items c.args.place
    (subst (λ (rs : List Row). All (λ (r : Row). r.order.place ≢ c.args.place) rs) c.deref.ensures.value
    c.in_err-at.ensures.none))) c.requires)

pub returns-then-not-was : goal.returns-then-not-was
returns-then-not-was g c =
    let was = c.index.result.now in
    let within = subst (λ (rs : List Row). c.in_ok-at.at < length rs) c.deref.ensures.value c.in_ok-at.ensures.within in
    let placed = subst (λ (rs : List Row). (get_or rs c.in_ok-at.at was).order.place ≡ c.args.place)
    c.deref.ensures.value (c.in_ok-at.ensures.at was) in
    let here = found c.self.inside.rows.items c.args.self.now c.in_ok-at.at c.args.place was c.self.view_is
    c.self.invariant.0 within c.index.ensures placed in
    absurd (missing c.args.self.now c.args.place (here
    ∙ ap (λ b. cond b (Some c.index.result.now.order) None) c.if-not-was.true) c.requires)

-- the rows with the new one
kept : (g : Over) (c : goal.After-self-1 g) →
    record {
      rises : Rises (set c.self.inside.rows.items c.in_ok-at.at
          (record c.index_mut.result.now { order = c.with_quantity.result }));
      count : c.self.inside.count ≡ length (live (set c.self.inside.rows.items c.in_ok-at.at
          (record c.index_mut.result.now { order = c.with_quantity.result })));
      live : live (set c.self.inside.rows.items c.in_ok-at.at
          (record c.index_mut.result.now { order = c.with_quantity.result })) ≡ amended c.args.place c.args.id
          c.args.quantity (live c.self.inside.rows.items);
    }
kept g c =
    let rows = c.self.inside.rows.items in
    let at = c.in_ok-at.at in
    let was = c.index.result.now in
    let own = c.index_mut.result.now in
    let f = with_quantity c.args.id c.args.quantity in
    let within = subst (λ (rs : List Row). at < length rs) c.deref.ensures.value c.in_ok-at.ensures.within in
    let placed = subst (λ (rs : List Row). (get_or rs at own).order.place ≡ c.args.place) c.deref.ensures.value
    (c.in_ok-at.ensures.at own) in
    let place : own.order.place ≡ c.args.place = ap (λ (r : Row). r.order.place) c.index_mut.ensures.value ∙ placed in
    let k = changed_kept f (λ o. refl) rows at c.self.inside.count was own c.self.invariant.0 within c.index.ensures
    c.index_mut.ensures.value c.if-not-was.false c.self.invariant.1 in
    let now : changed_row f own ≡ record own { order = c.with_quantity.result } =
    ap (λ (o : Order). record own { order = o }) (ap (λ (r : Row). f r.order)
    (same_row rows at own was within c.index_mut.ensures.value c.index.ensures) ∙ sym c.with_quantity.ensures) in
    record {
      rises = subst (λ (r : Row). Rises (set rows at r)) now k.rises;
      count = subst (λ (r : Row). c.self.inside.count ≡ length (live (set rows at r))) now k.count;
      live = subst (λ (r : Row). live (set rows at r) ≡ amended c.args.place c.args.id c.args.quantity (live rows)) now
          (subst (λ (p : ℕ). live (set rows at (changed_row f own)) ≡ changed f p (live rows)) place k.live);
    }

pub invariant_of-self : goal.invariant_of-self
invariant_of-self g c = ((kept g c).rises, (kept g c).count)

pub returns-clause-book : goal.returns-clause-book
returns-clause-book g c = (kept g c).live ∙ ap (λ (xs : List Order). amended c.args.place c.args.id c.args.quantity xs)
    c.self.view_is

pub returns-clause-was : goal.returns-clause-was
returns-clause-was g c =
    let was = c.index.result.now in
    let within = subst (λ (rs : List Row). c.in_ok-at.at < length rs) c.deref.ensures.value c.in_ok-at.ensures.within in
    let placed = subst (λ (rs : List Row). (get_or rs c.in_ok-at.at was).order.place ≡ c.args.place)
    c.deref.ensures.value (c.in_ok-at.ensures.at was) in
    let here = found c.self.inside.rows.items c.args.self.now c.in_ok-at.at c.args.place was c.self.view_is
    c.self.invariant.0 within c.index.ensures placed in
    sym (here ∙ ap (λ b. cond b (Some c.index.result.now.order) None) c.if-not-was.false)

pub returns-clause-ordered : goal.returns-clause-ordered
returns-clause-ordered g c = subst (λ (ys : List Order). Ascends ys) c.self.view_is
    (ascends_live c.self.inside.rows.items c.self.invariant.0)
