use Rattle.spread_report.proofs.entry.cancel_entry.Goals as goal

pub returns-in-Cancelled : goal.returns-in-Cancelled
returns-in-Cancelled g c fills =
    let w = rw (c.symbol_of-symbol.ensures, c.in-Cancelled.order-is) at c.send_cancelled.ensures in
    rw c.in-Cancelled.is w

pub returns-in-CancelRefused : goal.returns-in-CancelRefused
returns-in-CancelRefused g c fills =
    let w = rw (c.in-CancelRefused.reason-is, c.in-CancelRefused.place-is, c.in-CancelRefused.status-is) at
    c.send_cancel_reject.ensures in
    rw c.in-CancelRefused.is w
