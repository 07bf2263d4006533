use Rattle.std.proofs.Common.{sym, ◌∙◌}
use Rattle.std.specs.BTreeMap.{get}
use Rattle.spread_rules_ids.specs.IdKeys.{id_key_cmp}
use Rattle.spread_books_ids.proofs.Keys.{first_kept, first_new}
use Rattle.spread_books_ids.proofs.TakenBack.{put_back}
use Rattle.spread_books_ids.proofs.id_table.note_first.Goals as goal

pub returns-in-Some-clause-ok : goal.returns-in-Some-clause-ok
returns-in-Some-clause-ok g c =
    first_kept (get id_key_cmp c.args.behind.now) (get id_key_cmp c.insert.new.self)
    (get id_key_cmp c.insert-in-Some.new.self) c.args.key.now c.args.row c.in-Some.earlier
    (sym c.in-Some.is ∙ c.in_ok-earlier.ensures.old) c.in_ok-earlier.ensures.updates.0 c.in_ok-insert.ensures.updates.0

pub returns-clause-ok : goal.returns-clause-ok
returns-clause-ok g c =
    first_new (get id_key_cmp c.args.behind.now) (get id_key_cmp c.insert.new.self) c.args.key.now c.args.row
    (sym c.in_default.is ∙ c.in_ok-earlier.ensures.old) c.in_ok-earlier.ensures.updates.0

pub returns-in-Some-clause-back : goal.returns-in-Some-clause-back
returns-in-Some-clause-back g c =
    put_back (get id_key_cmp c.args.behind.now) (get id_key_cmp c.insert.new.self)
    (get id_key_cmp c.insert-in-Some.new.self) c.args.key.now c.args.row c.in-Some.earlier
    (sym c.in-Some.is ∙ c.in_ok-earlier.ensures.old) c.in_ok-earlier.ensures.updates.0 c.in_ok-insert.ensures.updates.0
