use Rattle.std.proofs.Common.{◌≡◌, None, rules}
use Rattle.std.specs.BTreeMap.{get}
use Rattle.spread_rules_ids.specs.declared.id_key.IdKey.{IdKey}
use Rattle.spread_rules_ids.specs.IdKeys.{id_key_cmp}
use Rattle.spread_books_ids.proofs.Tables.{fresh_lines}
use Rattle.spread_books_ids.proofs.id_table.IdTable.with_lines.Goals as goal

pub returns : goal.returns
returns g c =
    let none : (key : IdKey) → get id_key_cmp c.new.result key ≡ None = λ key. search rules in
    fresh_lines c.args.lines _ c.new-empty.result.items c.resize.new.self.items (get id_key_cmp c.new.result)
    c.new-empty.ensures.items c.in_ok-resize.ensures.items none
