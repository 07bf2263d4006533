use Rattle.std.proofs.Common.{ℕ, ◌/◌, All, subst}
use Rattle.std.specs.Prelude.{◌≢◌}
use Rattle.spread_books_ids.specs.declared.id_table.TheConstants.{ROWS}
use Rattle.spread_books_ids.proofs.Lines.{other_tags_name_none}
use Rattle.spread_books_ids.proofs.id_table.seek_in.Goals as goal

pub returns-then-at-lt-WIDTH : goal.returns-then-at-lt-WIDTH
returns-then-at-lt-WIDTH g c =
    let es = c.args.line.now.numbers in
    let others = subst (λ (t : ℕ). All (λ (e : ℕ). e / ROWS ≢ t) es) c.requires.tag
    (c.has_tag.ensures c.if-has_tag.false) in (
      other_tags_name_none (g.R.IdRows.keys c.args.rows.now) c.args.key.now es others,
      c.count_of-at.ensures.end c.if-at-lt-WIDTH.true,
      c.if-at-lt-WIDTH.true,
    )

pub returns-else-at-lt-WIDTH : goal.returns-else-at-lt-WIDTH
returns-else-at-lt-WIDTH g c =
    let es = c.args.line.now.numbers in
    let others = subst (λ (t : ℕ). All (λ (e : ℕ). e / ROWS ≢ t) es) c.requires.tag
    (c.has_tag.ensures c.if-has_tag.false) in (
      other_tags_name_none (g.R.IdRows.keys c.args.rows.now) c.args.key.now es others,
      c.count_of-at.ensures.full c.if-at-lt-WIDTH.false,
    )
