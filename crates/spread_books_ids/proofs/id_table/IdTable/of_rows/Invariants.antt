use Rattle.std.proofs.Common.{take}
use Rattle.std.specs.BTreeMap.{get}
use Rattle.spread_rules_ids.specs.IdKeys.{id_key_cmp}
use Rattle.spread_books_ids.specs.Tables.{AreOfRows}
use Rattle.spread_books_ids.proofs.id_table.IdTable.of_rows.Given as goal

abbrev pub invariant-loop-row : goal.invariant-loop-row
invariant-loop-row g l = record {
  noted : AreOfRows l.table.lines.items (get id_key_cmp l.table.behind) (take l.row (g.R.IdRows.keys l.rows));
}
