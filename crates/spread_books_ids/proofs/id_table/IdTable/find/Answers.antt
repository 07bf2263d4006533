use Rattle.std.proofs.Common.{subst, arith}
use Rattle.std.specs.BTreeMap.{get}
use Rattle.spread_rules_ids.specs.IdKeys.{id_key_cmp}
use Rattle.spread_books_ids.specs.Tables.{named_row, line_for}
use Rattle.spread_books_ids.specs.code.Seeks.{IsSeek}
use Rattle.spread_books_ids.proofs.Tables.{open_is_none}
use Rattle.spread_books_ids.proofs.id_table.IdTable.find.Goals as goal

pub returns-in-Open : goal.returns-in-Open
returns-in-Open g c =
    let ks = g.R.IdRows.keys c.args.rows.now in
    let lines = c.args.self.now.lines.items in
    let sought = subst (IsSeek (named_row ks c.args.key.now (line_for lines c.args.key.now))
    (line_for lines c.args.key.now)) c.in-Open.is c.seek.ensures in
    open_is_none lines (get id_key_cmp c.args.self.now.behind) ks c.args.key.now c.in-Open.field-0 c.requires sought.0
    sought.1 (omega arith)
