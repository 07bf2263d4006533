use Rattle.std.proofs.Common.{rules}
use Rattle.spread_match_orders.proofs.ticket.judge_fields.Goals as goal

pub returns-then-ticket-gt-MAX_ORDER_QTY : goal.returns-then-ticket-gt-MAX_ORDER_QTY
returns-then-ticket-gt-MAX_ORDER_QTY c = rw c.in-Some.is (search rules)

pub returns-then-ticket-tick-ne0 : goal.returns-then-ticket-tick-ne0
returns-then-ticket-tick-ne0 c = rw c.in-Some.is (search rules)

pub returns-else-ticket-tick-ne0 : goal.returns-else-ticket-tick-ne0
returns-else-ticket-tick-ne0 c = rw c.in-Some.is (search rules)
