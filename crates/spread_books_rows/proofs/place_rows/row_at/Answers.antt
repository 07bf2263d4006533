use Rattle.std.proofs.Common.{rules, Ok, Err}
use Rattle.std.proofs.lemmas.List.Sorted.{answers_always}
use Rattle.spread_books_rows.proofs.RisingRows.{by_place}
use Rattle.spread_books_rows.specs.declared.row.Row.{Row}
use Rattle.spread_books_rows.proofs.place_rows.row_at.Goals as goal

pub returns-in-Ok-clause-at : goal.returns-in-Ok-clause-at
returns-in-Ok-clause-at g c d =
    let rows = c.args.rows.now in
    (by_place (λ (r : Row). r.order.place) rows c.args.place (Ok c.in-Ok.at) c.requires
    (c.in-Ok.ensures.position (λ s. s.order.place) (answers_always _ _ _ (λ f a r w called. search rules)))).found d

pub returns-in-Err-clause-none : goal.returns-in-Err-clause-none
returns-in-Err-clause-none g c =
    let rows = c.args.rows.now in
    (by_place (λ (r : Row). r.order.place) rows c.args.place (Err c.in-Err.field-0) c.requires
    (c.in-Err.ensures.position (λ s. s.order.place) (answers_always _ _ _ (λ f a r w called. search rules)))).absent
