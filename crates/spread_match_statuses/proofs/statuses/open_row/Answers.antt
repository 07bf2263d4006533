use Rattle.std.proofs.Common.{◌≤◌, All, length, subst, sym, ap, ◌∙◌, arith}
use Rattle.std.specs.Prelude.{slice_get, option_and_then, IfNone}
use Rattle.std.proofs.lemmas.Bool.Decides.{nat_tests}
use Rattle.std.proofs.lemmas.Option.{slice_get_past}
use Rattle.spread_match_statuses.proofs.status_rows.MarkedRows.{IsClosed, none_open, first_closed, read_row}
use Rattle.spread_match_statuses.proofs.statuses.open_row.Goals as goal

pub returns-in_err-at-clause-none : goal.returns-in_err-at-clause-none
returns-in_err-at-clause-none g c =
    let rows = c.args.rows.now in
    subst (λ o. IfNone o (All (IsClosed c.args.session c.args.id.now) rows)) (sym c.from_residual.ensures)
    (none_open rows c.args.session c.args.id.now c.new.result c.find.result c.requires.index.bytes c.new.ensures.bytes
    c.new.ensures.key c.find.ensures c.requires.later (ap (option_and_then (slice_get rows)) c.in_err-at.was))

pub returns-in_err-status-clause-none : goal.returns-in_err-status-clause-none
returns-in_err-status-clause-none g c =
    let rows = c.args.rows.now in
    let past : length rows ≤ c.in_ok-at.at = (let k = c.in_err-status.ensures.lookup.0 in grind (arith, nat_tests, k))
    in
    subst (λ o. IfNone o (All (IsClosed c.args.session c.args.id.now) rows)) (sym c.from_residual-in_err-status.ensures)
    (none_open rows c.args.session c.args.id.now c.new.result c.find.result c.requires.index.bytes c.new.ensures.bytes
    c.new.ensures.key c.find.ensures c.requires.later
    (ap (option_and_then (slice_get rows)) c.in_ok-at.was ∙ slice_get_past rows c.in_ok-at.at past))

pub returns-then-was_accepted-clause-stands : goal.returns-then-was_accepted-clause-stands
returns-then-was_accepted-clause-stands g c =
    let s = c.in_ok-status.status.now in
    record {
      status = s;
      stands = read_row c.args.rows.now c.in_ok-at.at s s c.in_ok-status.ensures.lookup.0
          c.in_ok-status.ensures.lookup.1;
      is = sym c.if-was_accepted.ensures;
    }

pub returns-else-was_accepted-clause-none : goal.returns-else-was_accepted-clause-none
returns-else-was_accepted-clause-none g c =
    let rows = c.args.rows.now in
    let s = c.in_ok-status.status.now in
    first_closed rows c.args.session c.args.id.now c.new.result c.find.result s c.requires.index.bytes
    c.new.ensures.bytes c.new.ensures.key c.find.ensures c.requires.later
    (ap (option_and_then (slice_get rows)) c.in_ok-at.was
    ∙ read_row rows c.in_ok-at.at s s c.in_ok-status.ensures.lookup.0 c.in_ok-status.ensures.lookup.1)
    (sym c.if-was_accepted.ensures)
