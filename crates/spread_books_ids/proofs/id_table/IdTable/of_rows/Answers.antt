use Rattle.std.proofs.Common.{◌+◌, take, subst, sym, ◌∙◌, arith}
use Rattle.std.specs.BTreeMap.{get}
use Rattle.spread_rules_ids.specs.IdKeys.{id_key_cmp}
use Rattle.spread_books_ids.specs.declared.id_table.IdTable.{IdTable}
use Rattle.spread_books_ids.specs.Tables.{AreOfRows}
use Rattle.spread_books_ids.proofs.Tables.{take_next, has_row}
use Rattle.spread_books_ids.proofs.id_table.IdTable.of_rows.Goals.{in-Some+in_ok-note_row, in_default}
use Rattle.spread_books_ids.proofs.id_table.IdTable.of_rows.Goals as goal

pub loop-row-preserved : goal.loop-row-preserved
loop-row-preserved g c =
    let ks = g.R.IdRows.keys c.args.rows.now in
    let row = c.loop-row.row in
    elim c.match-key_at.branch [
      | in-Some+in_ok-note_row w ↦ record {
        noted = subst (λ (t : IdTable g.row.A.Denot). AreOfRows t.lines.items (get id_key_cmp t.behind)
            (take (row + 1) ks)) (sym w.table-is)
            (subst (AreOfRows w.note_row.new.self.lines.items (get id_key_cmp w.note_row.new.self.behind))
            (take_next ks row w.in-Some.key (sym c.key_at.ensures ∙ w.in-Some.is)) w.in_ok-note_row.ensures.ok);
      }
      | in_default w ↦ absurd (has_row ks row (omega arith) (sym c.key_at.ensures ∙ w.in_default.is))
    ]
