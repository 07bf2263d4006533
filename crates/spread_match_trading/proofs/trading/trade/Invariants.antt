use Rattle.spread_rules_rulebook.specs.Rulebook.{implied, month_count, references_of}
use Rattle.std.proofs.Common.{◌≡◌, ◌+◌, ◌*◌, ◌≤◌, ◌++◌, ◌-◌, List, min, length, vec_len, vec_capacity}
use Rattle.spread_rules.specs.declared.fill.Fill.{Fill}
use Rattle.spread_match_trading.specs.Tradable.{IsTradable}
use Rattle.spread_match_trading.specs.code.Turns.{IsAfter}
use Rattle.spread_match_trading.proofs.trading.trade.Given as goal

abbrev pub invariant-loop-left : goal.invariant-loop-left
invariant-loop-left g l = record {
  after : (made : List Fill) × (l.fills.items ≡ l.fn.fills.items ++ made)
      × IsAfter (implied l.rules) (references_of l.rules) l.fn.new g.rest l.left (g.B.Book.orders l.book) made;
  tradable : IsTradable (month_count l.rules) (g.B.Book.orders l.book);
  rules : g.B.Book.quotes_by l.book ≡ g.B.Book.quotes_by l.fn.book;
  room : vec_len l.fills + 3 * min l.left.leaves (length (g.B.Book.orders l.book) - 1) ≤ vec_capacity l.fills;
}

abbrev pub decreases-loop-left : goal.decreases-loop-left
decreases-loop-left g l = l.left.leaves
