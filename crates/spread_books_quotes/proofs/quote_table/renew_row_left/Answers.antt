use Rattle.std.proofs.Common.{◌≡◌, ℕ, ◌<◌, length, slice_set, sym, subst, ◌∙◌, arith, inl, inr}
use Rattle.std.proofs.lemmas.List.{length-set}
use Rattle.spread_books_plain.specs.Pairs.{IsCheapest}
use Rattle.spread_books_search.specs.code.Cheapest.{KeepsOthers}
use Rattle.spread_books_quotes.specs.code.FrontCosts.{cell_of, pairs_of, pair_of_cell}
use Rattle.spread_books_quotes.specs.code.QuoteTable.{HasCheapest}
use Rattle.spread_books_search.proofs.fronts.Suffice.{less_or_same}
use Rattle.spread_books_quotes.proofs.quotes.PairCells.{put_elsewhere, put_there, held_there, known_within}
use Rattle.spread_books_quotes.proofs.quotes.Tables.{cell_as}
use Rattle.spread_books_quotes.proofs.quote_table.renew_row_left.Goals as goal

pub loop-month-preserved : goal.loop-month-preserved
loop-month-preserved g c =
    let months = c.args.months in
    let s = c.args.side in
    let k = c.loop-month.month in
    let was = c.loop-month.invariant in
    let cells = c.loop-month.cells in
    let n = c.side_month_cell.result in
    let new = c.renew_left.new.held in
    let at : n ≡ cell_of s k = c.side_month_cell.ensures in
    record {
      count = length-set cells n new ∙ was.count;
      rest = λ t m other. put_elsewhere cells s t k m n new at (λ q. other q.0) ∙ was.rest t m other;
      later = λ m lt. put_elsewhere cells s s k m n new at (λ q. let e = q.1 in omega (arith, lt, e))
          ∙ was.later m (omega (arith, lt));
      own = λ m before on xs ys told lt among keep h.
          elim (less_or_same on m k before) [
            | inl earlier ↦ cell_as on months ys (pairs_of cells) (pairs_of (slice_set cells n new)) s m
                (put_elsewhere cells s s k m n new at (λ q. let e = q.1 in omega (arith, earlier, e)))
                (was.own m earlier on xs ys told lt among keep h)
            | inr e ↦
                let mine : HasCheapest on months xs (pairs_of cells) s k =
                cell_as on months xs (pairs_of c.args.cells.now) (pairs_of cells) s k (was.later k (omega arith))
                (subst (λ (j : ℕ). HasCheapest on months xs (pairs_of c.args.cells.now) s j) e h) in
                let here : KeepsOthers xs ys s k c.args.via = subst (λ (j : ℕ). KeepsOthers xs ys s j c.args.via) e keep
                in
                let under = c.loop-month-test.true in
                let both = c.min-count.ensures in
                let there = subst (λ (i : ℕ). cell_of s k < i) (sym was.count)
                (c.side_count.ensures.within k (omega (arith, under, both))) in
                let renewed : IsCheapest on ys s k months (pair_of_cell new) =
                c.renew_left.ensures on xs ys told (subst (λ (j : ℕ). j < months) e lt) among here
                (held_there on months xs cells s k n _ at (subst (λ (i : ℕ). i < length cells) (sym at) there) mine)
                in
                subst (λ (j : ℕ). HasCheapest on months ys (pairs_of (slice_set cells n new)) s j) (sym e)
                (put_there on months ys cells s k n new at renewed)
          ];
    }

pub returns-clause-own : goal.returns-clause-own
returns-clause-own g c = λ m on xs ys told lt among keep h least known.
    let there = subst (λ (n : ℕ). cell_of c.args.side m < n) c.loop-month.invariant.count
    (known_within c.loop-month.cells c.args.side m least known) in
    let in_cells = c.side_count.ensures.all m there in
    let months = c.from.ensures in
    let all = c.min-count.ensures in
    let end = c.loop-month-test.false in
    c.loop-month.invariant.own m (omega (arith, in_cells, months, all, end, lt)) on xs ys told lt among keep h least
    known
