use Rattle.std.proofs.Common.{◌≡◌, ◌≢◌, ℕ, List, ◌++◌, ◌∷◌, [], ◌≤◌, take, length, Some, None, All, cond, inl, inr, ◌⊎◌, subst, sym, ap, ◌∙◌, arith, rules}
use Rattle.std.specs.Prelude.{slice_get}
use Rattle.std.specs.Option.{option_or, is_some}
use Rattle.std.specs.BTreeMap.{get}
use Rattle.std.specs.BTreeMap.{BTreeMap}
use Rattle.spread_books_ids.specs.declared.id_table.Line.{Line}
use Rattle.spread_books_ids.specs.declared.id_table.TheConstants.{ROWS}
use Rattle.std.proofs.lemmas.List.{length-take-le}
use Rattle.spread_rules_ids.specs.declared.id_key.IdKey.{IdKey}
use Rattle.spread_rules_ids.specs.IdKeys.{id_key_cmp}
use Rattle.spread_books_ids.specs.Ids.{first_row, is_key}
use Rattle.spread_books_ids.specs.Tables.{AreOfRows, named_row, line_for, line_of, numbers_of}
use Rattle.spread_books_ids.specs.code.Seeks.{IsSeek, EndsAt, with_number}
use Rattle.spread_books_ids.proofs.TakenBack.{can_take_back, number_cleared}
use Rattle.spread_books_ids.proofs.Tables.{line_same, found_is_first, behind_is_first, open_is_none, noted_used, noted_open, noted_behind, on_ok, if_used}
use Rattle.spread_books_ids.proofs.id_table.IdTable.note_row.Goals as goal
use Rattle.spread_books_ids.proofs.id_table.IdTable.note_row.Given.{Over}
use Rattle.spread_books_ids.proofs.id_table.IdTable.note_row.Goals.{in_default-via-in-Open+else-row-lt-ROWS, in_default-via-in_default}

pub put_number-requires-clause-at : goal.put_number-requires-clause-at
put_number-requires-clause-at g c =
    let ks = g.R.IdRows.keys c.args.rows.now in
    let line = line_for c.args.self.now.lines.items c.args.key.now in
    let sought = subst (IsSeek (named_row ks c.args.key.now line) line) c.in-Open.is c.seek.ensures in
    sought.2

pub returns-in-Found : goal.returns-in-Found
returns-in-Found g c =
    let ks = g.R.IdRows.keys c.args.rows.now in
    let lines = c.args.self.now.lines.items in
    let rest = get id_key_cmp c.args.self.now.behind in
    let key = c.args.key.now in
    let line = line_for lines key in
    let sought = subst (IsSeek (named_row ks key line) line) c.in-Found.is c.seek.ensures in
    let used = ap is_some (found_is_first lines rest (take c.args.row ks) key c.in-Found.field-0 c.requires.table
    (sym (line_same lines rest ks c.args.row key c.requires.row c.requires.table) ∙ sought)) in
    record {
      used = used;
      back = c.requires.table;
      ok =
          noted_used lines rest (take c.args.row ks) key c.requires.table (sym used);
      table_on_err = tt;
    }

pub returns-in-Open : goal.returns-in-Open
returns-in-Open g c =
    let ks = g.R.IdRows.keys c.args.rows.now in
    let lines = c.args.self.now.lines.items in
    let rest = get id_key_cmp c.args.self.now.behind in
    let key = c.args.key.now in
    let line = line_for lines key in
    let spot = c.spot_of-spot.result in
    let sought = subst (IsSeek (named_row ks key line) line) c.in-Open.is c.seek.ensures in
    let few = c.if-row-lt-ROWS.true in
    let many : length (take c.args.row ks) ≡ c.args.row = length-take-le c.args.row ks c.requires.row in
    let number : c.len.result ≡ length lines = search rules in
    let at_line : spot.line ≡ line_of (length lines) key = c.spot_of-spot.ensures.line
    ∙ ap (λ (n : ℕ). line_of n key) number in
    let now : c.put_number.new.self.lines.items ≡ with_number lines (line_of (length lines) key) c.in-Open.at
    c.number_of.result =
    c.put_number.ensures.lines ∙ ap (λ (n : ℕ). with_number lines n c.in-Open.at c.number_of.result) at_line in
    let noted = noted_open lines rest (take c.args.row ks) key c.in-Open.at spot.tag c.args.row c.number_of.result
    c.requires.table sought.1 c.number_of.ensures
    c.spot_of-spot.ensures.tag c.spot_of-spot.ensures.some (sym many) few in
    record {
      used = ap is_some (open_is_none lines rest (take c.args.row ks) key c.in-Open.at c.requires.table
          (sym (line_same lines rest ks c.args.row key c.requires.row c.requires.table) ∙ sought.0) sought.1
          (omega (arith, many, few)));
      back = subst (λ (ls : List Line). AreOfRows ls (get id_key_cmp c.put_number.new.self.behind) (take c.args.row ks))
          (sym (ap (λ (ls : List Line). with_number ls spot.line c.in-Open.at 0)
          (now ∙ ap (λ (n : ℕ). with_number lines n c.in-Open.at c.number_of.result) (sym at_line))
          ∙ number_cleared lines spot.line c.in-Open.at c.number_of.result
          (subst (λ (n : ℕ). EndsAt (numbers_of (slice_get lines n)) c.in-Open.at) (sym at_line) sought.1)))
          (subst (λ (b : BTreeMap IdKey ℕ). AreOfRows lines (get id_key_cmp b) (take c.args.row ks))
          (sym c.put_number.ensures.behind) c.requires.table);
      ok = subst (λ (ls : List Line). AreOfRows ls (get id_key_cmp c.put_number.new.self.behind)
          (take c.args.row ks ++ key ∷ [])) (sym now)
          (subst (λ (b : BTreeMap IdKey ℕ). AreOfRows (with_number lines (line_of (length lines) key) c.in-Open.at
          c.number_of.result) (get id_key_cmp b) (take c.args.row ks ++ key ∷ [])) (sym c.put_number.ensures.behind)
          noted);
      table_on_err = tt;
    }

-- no number of the line is of the key, and the line is full or the row is none that can be named
beyond : (g : Over) (c : goal.After-note_first g) →
    (named_row (g.R.IdRows.keys c.args.rows.now) c.args.key.now (line_for c.args.self.now.lines.items c.args.key.now) ≡
    None)
    × (All (λ (e : ℕ). e ≢ 0) (line_for c.args.self.now.lines.items c.args.key.now) ⊎
    (ROWS ≤ length (take c.args.row (g.R.IdRows.keys c.args.rows.now))))
beyond g c =
    let ks = g.R.IdRows.keys c.args.rows.now in
    let line = line_for c.args.self.now.lines.items c.args.key.now in
    let many : length (take c.args.row ks) ≡ c.args.row = length-take-le c.args.row ks c.requires.row in
    elim c.in_default.branch [
      | in_default-via-in-Open+else-row-lt-ROWS w ↦ let few = w.if-row-lt-ROWS.false in (
        (subst (IsSeek (named_row ks c.args.key.now line) line) w.in-Open.is c.seek.ensures).0,
        inr (omega (arith, many, few)),
      )
      | in_default-via-in_default w ↦ let full = subst (IsSeek (named_row ks c.args.key.now line) line) w.in_default.is
          c.seek.ensures in (full.0, inl full.1)
    ]

pub returns-in_default-clause-back : goal.returns-in_default-clause-back
returns-in_default-clause-back g c =
    let ks = g.R.IdRows.keys c.args.rows.now in
    can_take_back c.note_first.result c.args.self.now.lines.items (get id_key_cmp c.args.self.now.behind)
    (get id_key_cmp c.note_first.new.behind) c.args.key.now (take c.args.row ks) c.requires.table
    c.note_first.ensures.lines c.note_first.ensures.back

pub returns-in_default-clause-used : goal.returns-in_default-clause-used
returns-in_default-clause-used g c =
    let ks = g.R.IdRows.keys c.args.rows.now in
    let lines = c.args.self.now.lines.items in
    let rest = get id_key_cmp c.args.self.now.behind in
    let key = c.args.key.now in
    if_used c.note_first.result (is_some (rest key)) (is_some (first_row key (take c.args.row ks)))
    (ap is_some (behind_is_first lines rest (take c.args.row ks) key c.requires.table
    (sym (line_same lines rest ks c.args.row key c.requires.row c.requires.table) ∙ (beyond g c).0)))
    c.note_first.ensures.used

pub returns-in_default-clause-ok : goal.returns-in_default-clause-ok
returns-in_default-clause-ok g c =
    let ks = g.R.IdRows.keys c.args.rows.now in
    let lines = c.args.self.now.lines.items in
    let rest = get id_key_cmp c.args.self.now.behind in
    let later = get id_key_cmp c.note_first.new.behind in
    let key = c.args.key.now in
    let many : length (take c.args.row ks) ≡ c.args.row = length-take-le c.args.row ks c.requires.row in
    on_ok c.note_first.result ((q : IdKey) → later q ≡ option_or (rest q) (cond (is_key key q) (Some c.args.row) None))
    (AreOfRows lines later (take c.args.row ks ++ key ∷ []))
    (λ put. noted_behind lines rest later (take c.args.row ks) key c.requires.table (beyond g c).1
    (λ q. put q ∙ ap (λ (n : ℕ). option_or (rest q) (cond (is_key key q) (Some n) None)) (sym many)))
    c.note_first.ensures.ok
