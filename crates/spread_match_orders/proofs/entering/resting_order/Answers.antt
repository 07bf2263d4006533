use Rattle.std.proofs.Common.{sym, ◌∙◌}
use Rattle.spread_match_orders.proofs.entries.OrderOfAnId.{another_there, none_there, own_there, unused_rests}
use Rattle.spread_match_orders.proofs.entering.resting_order.Goals as goal

pub returns-in_err-status : goal.returns-in_err-status
returns-in_err-status g c = c.from_residual.ensures
    ∙ sym (unused_rests (g.B.Book.orders c.args.book.now) c.args.statuses.now c.args.session c.args.id.now
    c.requires.known (sym c.find.ensures ∙ c.in_err-status.was))

pub returns-in_err-order : goal.returns-in_err-order
returns-in_err-order g c =
    c.from_residual-in_err-order.ensures
    ∙ sym (none_there (g.B.Book.orders c.args.book.now) c.args.statuses.now c.args.session c.args.id.now
    c.in_ok-status.status c.requires.places c.requires.known (sym c.find.ensures ∙ c.in_ok-status.was)
    (sym c.at.ensures ∙ c.in_err-order.was))

pub returns-then-is_own : goal.returns-then-is_own
returns-then-is_own g c =
    sym (own_there (g.B.Book.orders c.args.book.now) c.args.statuses.now c.args.session c.args.id.now
    c.in_ok-status.status c.requires.places c.requires.known (sym c.find.ensures ∙ c.in_ok-status.was)
    c.in_ok-order.order (sym c.at.ensures ∙ c.in_ok-order.was) (sym c.is_own.ensures ∙ c.if-is_own.true))

pub returns-else-is_own : goal.returns-else-is_own
returns-else-is_own g c =
    sym (another_there (g.B.Book.orders c.args.book.now) c.args.statuses.now c.args.session c.args.id.now
    c.in_ok-status.status c.requires.places c.requires.known (sym c.find.ensures ∙ c.in_ok-status.was)
    c.in_ok-order.order (sym c.at.ensures ∙ c.in_ok-order.was) (sym c.is_own.ensures ∙ c.if-is_own.false))
