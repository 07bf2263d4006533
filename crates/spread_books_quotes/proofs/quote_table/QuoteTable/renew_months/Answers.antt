use Rattle.std.proofs.Common.{List, Option, sym, ap, subst, ◌∙◌}
use Rattle.spread_books_plain.specs.declared.pair.PairCost.{PairCost}
use Rattle.spread_books_quotes.specs.code.FrontCosts.{pairs_of}
use Rattle.spread_books_quotes.specs.code.QuoteTable.{HasCheapest, IsOneWay}
use Rattle.spread_books_quotes.specs.declared.quote_table.Change.{Change}
use Rattle.spread_books_quotes.proofs.quotes.PairCells.{written}
use Rattle.spread_books_quotes.proofs.quote_table.QuoteTable.renew_months.Goals as goal

pub returns-in-Came-clause-own : goal.returns-in-Came-clause-own
returns-in-Came-clause-own g c = λ m on xs ys told lt way keep h.
    let months = c.args.months in
    let s = c.args.column.side in
    let among = subst (λ (w : Change). IsOneWay w xs ys) c.in-Came.is way in
    let cells = c.deref_mut.result.now in
    let new = c.renew_row_came.new.cells in
    let was : HasCheapest on months xs (pairs_of cells) s m =
    subst (λ (ps : List (Option PairCost)). HasCheapest on months xs ps s m)
    (sym c.self.view_is ∙ ap pairs_of (sym c.deref_mut.ensures.value)) h in
    subst (λ (ps : List PairCost). HasCheapest on months ys (pairs_of ps) s m)
    (sym (written cells new c.self.inside.cells.items c.self.inside.cells.len c.renew_row_came.ensures.length
    c.deref_mut.ensures.len))
    (c.renew_row_came.ensures.own m on xs ys told lt among keep was)

pub returns-in-Left-clause-own : goal.returns-in-Left-clause-own
returns-in-Left-clause-own g c = λ m on xs ys told lt way keep h.
    let months = c.args.months in
    let s = c.args.column.side in
    let among = subst (λ (w : Change). IsOneWay w xs ys) c.in-Left.is way in
    let cells = c.deref_mut-in-Left.result.now in
    let new = c.renew_row_left.new.cells in
    let was : HasCheapest on months xs (pairs_of cells) s m =
    subst (λ (ps : List (Option PairCost)). HasCheapest on months xs ps s m)
    (sym c.self.view_is ∙ ap pairs_of (sym c.deref_mut-in-Left.ensures.value)) h in
    subst (λ (ps : List PairCost). HasCheapest on months ys (pairs_of ps) s m)
    (sym (written cells new c.self.inside.cells.items c.self.inside.cells.len c.renew_row_left.ensures.length
    c.deref_mut-in-Left.ensures.len))
    (c.renew_row_left.ensures.own m on xs ys told lt among keep was)
