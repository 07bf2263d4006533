use Rattle.spread_rules.specs.Clearing.{removed}
use Rattle.spread_match_orders.proofs.newest.trade_newest.Given as goal

abbrev pub ghost-trade : goal.ghost-trade
ghost-trade g a = removed a.new.place (g.B.Book.orders a.book.now)
