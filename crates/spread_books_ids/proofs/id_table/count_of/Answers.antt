use Rattle.std.proofs.Common.{◌<◌, length, sym, subst, arith, ℕ, ◌+◌}
use Rattle.spread_books_ids.proofs.Lines.{Counts, counts_more, counts_same}
use Rattle.spread_books_ids.proofs.id_table.count_of.Goals as goal
use Rattle.spread_books_ids.proofs.id_table.count_of.Goals.{then-line-at-ne0, else-line-at-ne0}

pub loop-at-preserved : goal.loop-at-preserved
loop-at-preserved c =
    let es = c.args.line.now.numbers in
    let at = c.loop-at.at in
    let within : at < length es = omega arith in
    elim c.if-line-at-ne0.branch [
      | then-line-at-ne0 w ↦ subst (λ (n : ℕ). Counts es (at + 1) n) (sym w.count-is)
          (counts_more es at c.loop-at.count within c.requires c.loop-at.invariant w.if-line-at-ne0.true)
      | else-line-at-ne0 w ↦ subst (λ (n : ℕ). Counts es (at + 1) n) (sym w.count-is)
          (counts_same es at c.loop-at.count within c.loop-at.invariant w.if-line-at-ne0.false)
    ]
