use Rattle.std.proofs.Common.{◌≡◌, List, [], ◌∷◌, ◌++◌, Option, Some, sym, ap, ◌∙◌, subst}
use Rattle.std.proofs.lemmas.List.{append-nil}
use Rattle.std.specs.Option.{option_to_list}
use Rattle.spread_rules.specs.declared.order.Order.{Order}
use Rattle.spread_rules.specs.declared.order.Level.{Level}
use Rattle.spread_books_plain.specs.Queues.{IsFrontLevel}
use Rattle.spread_books_plain.proofs.fronts.Changes.{level_of_no_queue}
use Rattle.spread_books_search.specs.BookView.{BookView}
use Rattle.spread_books.proofs.index.IndexBookBook.front_level.Goals as goal

pub returns-then-is_in : goal.returns-then-is_in
returns-then-is_in g c =
    let xs = c.self.inside.others.orders in
    let o = c.in-Some.newest in
    let whole : xs ++ o ∷ [] ≡ c.args.self.now.orders =
    ap (λ (r : Option Order). xs ++ option_to_list r) (sym c.in-Some.is)
    ∙ (ap (λ (v : BookView). v.orders) c.self.view_is) in
    subst (λ (zs : List Order). IsFrontLevel zs c.args.instrument c.args.side (Some c.level.result)) whole
    (Some c.front_beside.result, c.front_beside.ensures, ap (λ (l : Level). Some l) c.level.ensures)

pub returns-else-is_in : goal.returns-else-is_in
returns-else-is_in g c =
    let xs = c.self.inside.others.orders in
    let o = c.in-Some.newest in
    let whole : xs ++ o ∷ [] ≡ c.args.self.now.orders =
    ap (λ (r : Option Order). xs ++ option_to_list r) (sym c.in-Some.is)
    ∙ (ap (λ (v : BookView). v.orders) c.self.view_is) in
    subst (λ (zs : List Order). IsFrontLevel zs c.args.instrument c.args.side c.front_level-level.result) whole
    (level_of_no_queue xs o c.args.instrument c.args.side c.front_level-level.result
    (sym c.is_in.ensures ∙ c.if-is_in.false) c.front_level-level.ensures)

pub returns-in_default : goal.returns-in_default
returns-in_default g c =
    let xs = c.self.inside.others.orders in
    let whole : xs ≡ c.args.self.now.orders = sym (append-nil xs)
    ∙ (ap (λ (r : Option Order). xs ++ option_to_list r) (sym c.in_default.is)
    ∙ ap (λ (v : BookView). v.orders) c.self.view_is) in
    subst (λ (zs : List Order). IsFrontLevel zs c.args.instrument c.args.side c.front_level-level.result) whole
    c.front_level-level.ensures
