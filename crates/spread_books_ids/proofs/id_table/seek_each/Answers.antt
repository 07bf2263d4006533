use Rattle.std.proofs.Common.{◌<◌, length, sym, ◌∙◌, arith}
use Rattle.spread_books_ids.proofs.Lines.{next_named, next_ended, next_ends, next_full, end_here}
use Rattle.spread_books_ids.proofs.id_table.seek_each.Goals as goal

pub returns-then-number-eq0 : goal.returns-then-number-eq0
returns-then-number-eq0 g c =
    let es = c.args.line.now.numbers in
    let at = c.loop-at.at in
    let within : at < length es = omega arith in
    let inv = c.loop-at.invariant in
    let here = end_here (g.R.IdRows.keys c.args.rows.now) c.args.key.now es at within c.if-number-eq0.true inv.named
    inv.ended inv.ends in
    (here.0, here.1, c.loop-at-test.true)

pub loop-at-preserved : goal.loop-at-preserved
loop-at-preserved g c =
    let ks = g.R.IdRows.keys c.args.rows.now in
    let es = c.args.line.now.numbers in
    let at = c.loop-at.at in
    let within : at < length es = omega arith in
    let inv = c.loop-at.invariant in
    let some = c.if-number-eq0.false in
    record {
      named = next_named ks c.args.key.now es at within (sym c.names_key.ensures ∙ c.if-names_key.false) inv.named;
      ended = next_ended es at within inv.ended;
      ends = next_ends es at within some inv.ends;
      full = next_full es at within some inv.full;
    }
