use Rattle.std.proofs.Common.{◌≡◌, ℕ, ◌<◌, ◌≤◌, length}
use Rattle.spread_books_quotes.specs.code.FrontCosts.{pairs_of}
use Rattle.spread_books_quotes.specs.code.QuoteTable.{known_pair, KeepsOtherSide, RenewsCell}
use Rattle.spread_books_quotes.specs.declared.quote_table.Change.TheVariants.{Came}
use Rattle.spread_books_quotes.proofs.quote_table.renew_row_came.Given as goal

abbrev pub invariant-loop-month : goal.invariant-loop-month
invariant-loop-month g l = record {
  count : length l.cells ≡ length l.fn.cells;
  rest : KeepsOtherSide l.side (pairs_of l.fn.cells) (pairs_of l.cells);
  later : (m : ℕ) → l.month ≤ m → known_pair (pairs_of l.cells) l.side m ≡ known_pair (pairs_of l.fn.cells) l.side m;
  own : (m : ℕ) → m < l.month → RenewsCell Came l.costs l.months l.side l.via (pairs_of l.fn.cells) (pairs_of l.cells)
      m;
}
