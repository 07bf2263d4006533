use Rattle.std.proofs.Common.{◌≡◌, ℤ, List, Option, Some, arith, sym, ap, subst, ◌∙◌}
use Rattle.spread_books_plain.specs.Pairs.{IsCheapest}
use Rattle.spread_books_plain.specs.declared.pair.PairCost.{PairCost}
use Rattle.spread_books_search.specs.code.Cheapest.{sooner_of}
use Rattle.spread_books_quotes.specs.code.FrontCosts.{pairs_of, pair_of_cell}
use Rattle.spread_books_quotes.specs.code.QuoteTable.{known_pair, HasCheapest, IsOneWay}
use Rattle.spread_books_quotes.specs.declared.quote_table.Change.{Change}
use Rattle.spread_books_quotes.proofs.quotes.Cells.{sum_whole}
use Rattle.spread_books_quotes.proofs.quotes.Columns.{kept_row, not_via}
use Rattle.spread_books_quotes.proofs.quotes.PairCells.{put_elsewhere, put_there, held_there, came_told, known_within}
use Rattle.spread_books_quotes.proofs.quote_table.QuoteTable.renew_cell.Goals as goal
use Rattle.spread_books_quotes.proofs.quote_table.QuoteTable.renew_cell.Goals.{else-via-months-via-then-via-months+else-n-len, else-via-months-via-else-via-months}

pub returns-in-Came-clause-rest : goal.returns-in-Came-clause-rest
returns-in-Came-clause-rest g c = λ t m other.
    put_elsewhere c.self.inside.cells.items c.args.column.side t c.args.month m c.side_month_cell-n.result
    c.offer.new.held
    c.side_month_cell-n.ensures other ∙ ap (λ (ps : List (Option PairCost)). known_pair ps t m) c.self.view_is

pub returns-in-Left-clause-rest : goal.returns-in-Left-clause-rest
returns-in-Left-clause-rest g c = λ t m other.
    put_elsewhere c.self.inside.cells.items c.args.column.side t c.args.month m c.side_month_cell-n.result
    c.renew_left.new.held
    c.side_month_cell-n.ensures other ∙ ap (λ (ps : List (Option PairCost)). known_pair ps t m) c.self.view_is

pub returns-in-Came-clause-own : goal.returns-in-Came-clause-own
returns-in-Came-clause-own g c = λ on xs ys told lt way keep h.
    let months = c.args.months in
    let s = c.args.column.side in
    let m = c.args.month in
    let via = c.args.column.via in
    let cells = c.self.inside.cells.items in
    let n = c.side_month_cell-n.result in
    let among = subst (λ (w : Change). IsOneWay w xs ys) c.in-Came.is way in
    let was : HasCheapest on months xs (pairs_of cells) s m =
    subst (λ (ps : List (Option PairCost)). HasCheapest on months xs ps s m) (sym c.self.view_is) h in
    let a = c.spread_cell-spread.result in
    let b = c.outright_cell.result in
    let sum = sum_whole a b c.sum_of_cells-cost.result c.spread_cell-spread.ensures.order_price
    c.outright_cell.ensures.order_price c.sum_of_cells-cost.ensures in
    let before = c.if-n-len.true in
    let count = c.len.ensures in
    let all = c.self.inside.cells.ok.0 in
    let held = held_there on months xs cells s m n c.index_mut.result.now c.side_month_cell-n.ensures
    (omega (arith, before, count, all)) was in
    put_there on months ys cells s m n c.offer.new.held c.side_month_cell-n.ensures
    (subst (λ (p : PairCost). IsCheapest on ys s m months (pair_of_cell p))
    (sym (c.offer.ensures ∙ ap (λ (z : ℤ). sooner_of z via c.index_mut.result.now) sum))
    (came_told on xs ys s m months via keep c.if-via-months.true among c.args.costs.now c.index_mut.result.now a b told
    lt c.spread_cell-spread.ensures.cost c.outright_cell.ensures.cost
    c.spread_cell-spread.ensures.order_price c.outright_cell.ensures.order_price
    (subst (λ (p : PairCost). IsCheapest on xs s m months (pair_of_cell p)) (sym c.index_mut.ensures.value) held)))

pub returns-in-Left-clause-own : goal.returns-in-Left-clause-own
returns-in-Left-clause-own g c = λ on xs ys told lt way keep h.
    let months = c.args.months in
    let s = c.args.column.side in
    let m = c.args.month in
    let cells = c.self.inside.cells.items in
    let n = c.side_month_cell-n.result in
    let among = subst (λ (w : Change). IsOneWay w xs ys) c.in-Left.is way in
    let was : HasCheapest on months xs (pairs_of cells) s m =
    subst (λ (ps : List (Option PairCost)). HasCheapest on months xs ps s m) (sym c.self.view_is) h in
    let before = c.if-n-len.true in
    let count = c.len.ensures in
    let all = c.self.inside.cells.ok.0 in
    let held = held_there on months xs cells s m n c.index_mut-in-Left.result.now c.side_month_cell-n.ensures
    (omega (arith, before, count, all)) was in
    put_there on months ys cells s m n c.renew_left.new.held c.side_month_cell-n.ensures
    (c.renew_left.ensures on xs ys told lt among keep (subst
    (λ (p : PairCost). IsCheapest on xs s m months (pair_of_cell p)) (sym c.index_mut-in-Left.ensures.value) held))

pub returns-else-via-months-clause-own : goal.returns-else-via-months-clause-own
returns-else-via-months-clause-own g c = λ on xs ys told lt way keep h least known.
    elim c.else-via-months.branch [
      | else-via-months-via-then-via-months+else-n-len w ↦
          let there : known_pair (pairs_of c.self.inside.cells.items) c.args.column.side c.args.month ≡ Some least =
          ap (λ (ps : List (Option PairCost)). known_pair ps c.args.column.side c.args.month) c.self.view_is
          ∙ known in
          let inside = known_within c.self.inside.cells.items c.args.column.side c.args.month least there in
          let past = w.if-n-len.false in
          let count = w.len.ensures in
          let at = c.side_month_cell-n.ensures in
          let all = c.self.inside.cells.ok.0 in
          absurd (omega (arith, inside, past, count, at, all))
      | else-via-months-via-else-via-months w ↦
          kept_row on xs ys c.args.column.side c.args.month c.args.months least
          (λ k below. keep k (not_via c.args.months c.args.column.via k w.if-via-months.false below))
          (h least known)
    ]
