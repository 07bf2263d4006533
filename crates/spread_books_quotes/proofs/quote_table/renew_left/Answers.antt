use Rattle.std.proofs.Common.{sym, ◌∙◌}
use Rattle.spread_books_quotes.proofs.quotes.PairCells.{left_cell}
use Rattle.spread_books_quotes.proofs.quote_table.renew_left.Goals as goal

pub returns-then-held-from : goal.returns-then-held-from
returns-then-held-from g c = λ on xs ys told lt fewer keep h. c.cheapest_of_row.ensures on ys told lt

pub returns-else-held-from : goal.returns-else-held-from
returns-else-held-from g c = λ on xs ys told lt fewer keep h.
    left_cell on xs ys c.args.side c.args.month c.args.months c.args.via c.args.held.now fewer keep
    (λ e. c.if-held-from.false (e ∙ sym c.from.ensures)) h
