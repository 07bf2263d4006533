-- A key that was noted in a table, and the table before.
use Rattle.std.specs.Prelude.{ℕ, Bool, true, false, cond, List, Option, None}
use Rattle.std.specs.BTreeMap.{get}
use Rattle.spread_rules_ids.specs.declared.id_key.IdKey.{IdKey}
use Rattle.spread_rules_ids.specs.IdKeys.{id_key_cmp}
use Rattle.spread_books_ids.specs.declared.id_table.Line.{Line}
use Rattle.spread_books_ids.specs.declared.id_table.Noted.{Noted}
use Rattle.spread_books_ids.specs.declared.id_table.Noted.TheVariants.{Known, InLine, Behind}
use Rattle.spread_books_ids.specs.declared.id_table.IdTable.{IdTable}
use Rattle.spread_books_ids.specs.Ids.{is_key}
use Rattle.spread_books_ids.specs.Tables.{AreOfRows}
use Rattle.spread_books_ids.specs.code.Seeks.{with_number}

-- whether a row before it has the key
abbrev pub is_known : Noted → Bool
is_known Known = true
is_known _ = false

-- the lines before a key was noted so
abbrev pub lines_before : Noted → List Line → List Line
lines_before (InLine line at) lines = with_number lines line at 0
lines_before _ lines = lines

-- the table behind the lines, before that key was noted so
abbrev pub rest_before : Noted → IdKey → (IdKey → Option ℕ) → IdKey → Option ℕ
rest_before Behind key rest q = cond (is_key key q) None (rest q)
rest_before _ key rest q = rest q

-- before that key was noted so, the table told of each key its first row among these
abbrev pub CanTakeBack : {A : Type 0} → IdTable A → Noted → IdKey → List IdKey → Type 0
CanTakeBack t noted key ks =
    AreOfRows (lines_before noted t.lines.items) (rest_before noted key (get id_key_cmp t.behind)) ks
