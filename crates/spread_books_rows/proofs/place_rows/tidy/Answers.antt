use Rattle.std.proofs.Common.{◌≡◌, List, All, true, rules, subst, sym, ap, ◌∙◌}
use Rattle.std.proofs.lemmas.Fn.{filter_same}
use Rattle.std.proofs.lemmas.List.Elements.{filter_passes}
use Rattle.spread_books_rows.specs.declared.row.Row.{Row}
use Rattle.spread_books_rows.specs.code.Rows.{live, Rises}
use Rattle.spread_books_rows.proofs.places.RowsByPlace.{live_kept, rises_kept}
use Rattle.spread_books_rows.proofs.place_rows.tidy.Goals as goal

pub returns-clause-live : goal.returns-clause-live
returns-clause-live g c = ap (λ (rs : List Row). live rs)
    (filter_same _ _ _ (λ x b f' k. search rules) _ _ c.retain.ensures.filtered) ∙ live_kept c.args.rows.now.items

pub returns-clause-rises : goal.returns-clause-rises
returns-clause-rises g c = subst (λ (rs : List Row). Rises rs)
    (sym (filter_same _ _ _ (λ x b f' k. search rules) _ _ c.retain.ensures.filtered))
    (rises_kept c.args.rows.now.items c.requires)

pub returns-clause-rest : goal.returns-clause-rest
returns-clause-rest g c = subst (λ (rs : List Row). All (λ (r : Row). r.rests ≡ true) rs)
    (sym (filter_same _ _ _ (λ x b f' k. search rules) _ _ c.retain.ensures.filtered))
    (filter_passes (λ (r : Row). r.rests) c.args.rows.now.items)
