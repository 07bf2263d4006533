use Rattle.std.proofs.Common.{ℕ, ◌*◌, replicate, refl, ap, ◌∙◌}
use Rattle.spread_books_plain.specs.declared.pair.PairCost.{PairCost}
use Rattle.spread_books_quotes.specs.code.FrontCosts.{pairs_of}
use Rattle.spread_books_quotes.specs.declared.front_costs.TheConstants.{NO_PAIR}
use Rattle.spread_books_quotes.proofs.quotes.PairCells.{no_pairs, resized}
use Rattle.spread_books_quotes.proofs.quote_table.QuoteTable.new.Goals as goal

pub returns : goal.returns
returns g c =
    let cell : PairCost = record { cost = NO_PAIR; other_month = c.from.result } in
    ap pairs_of (c.in_ok-resize.ensures.items
    ∙ (resized c.new-cells.result.items (c.from-2.result * 2) c.new-cells.result.len cell c.new-cells.ensures.items
    c.new-cells.ensures.len
    ∙ ap (λ (n : ℕ). replicate (n * 2) cell) c.from-2.ensures))
    ∙ no_pairs (c.args.months * 2) cell refl
