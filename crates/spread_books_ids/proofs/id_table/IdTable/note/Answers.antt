use Rattle.std.proofs.Common.{◌≡◌, List, length, take, sym, ap, subst, ◌∙◌}
use Rattle.std.proofs.Math.Seq.{take-length}
use Rattle.spread_rules_ids.specs.declared.id_key.IdKey.{IdKey}
use Rattle.spread_books_ids.specs.Tables.{IsTableOf}
use Rattle.spread_books_ids.proofs.id_table.IdTable.note.Goals as goal

-- the rows before the one that comes are all
all_before : (keys : List IdKey) (n : _) → n ≡ length keys → take n keys ≡ keys
all_before keys n e = ap (λ k. take k keys) e ∙ take-length keys

pub note_row-requires-clause-table : goal.note_row-requires-clause-table
note_row-requires-clause-table g c =
    subst (IsTableOf c.reserve.new.self) (sym (all_before (g.R.IdRows.keys c.args.rows.now) c.len.result c.len.ensures))
    c.reserve.ensures

pub returns-clause-used : goal.returns-clause-used
returns-clause-used g c =
    let all = all_before (g.R.IdRows.keys c.args.rows.now) c.len.result c.len.ensures in
    rw all at c.note_row.ensures.used

pub returns-clause-back : goal.returns-clause-back
returns-clause-back g c =
    let all = all_before (g.R.IdRows.keys c.args.rows.now) c.len.result c.len.ensures in
    rw all at c.note_row.ensures.back

pub returns-clause-ok : goal.returns-clause-ok
returns-clause-ok g c =
    let all = all_before (g.R.IdRows.keys c.args.rows.now) c.len.result c.len.ensures in
    rw all at c.note_row.ensures.ok
