use Rattle.std.proofs.Common.{◌≡◌, Bool, true, false, OnErr, Result, Ok, Err, sym, ap, ◌∙◌}
use Rattle.std.specs.Result.{result_unwrap_or}
use Rattle.std.specs.Prelude.{IfOk}
use Rattle.spread_rules.specs.Clearing.{removed}
use Rattle.spread_match_orders.proofs.entries.NewOrder.{removed_newest}
use Rattle.spread_match_orders.proofs.entering.add_order.Goals as goal

-- where the answer is true, or there is none, and where it is false
if_used : {E : Type 0} (P : Bool → Type 0) (r : Result Bool E) → result_unwrap_or r true ≡ true → P true → IfOk r P
if_used P (Ok true) h p = p
if_used P (Ok false) h p = cc
if_used P (Err e) h p = tt

if_unused : {E : Type 0} (P : Bool → Type 0) (r : Result Bool E) → result_unwrap_or r true ≡ false → P false → IfOk r P
if_unused P (Ok true) h p = cc
if_unused P (Ok false) h p = p
if_unused P (Err e) h p = tt

on_err : {T E P : Type 0} (r : Result T E) → P → OnErr r P
on_err (Ok x) p = tt
on_err (Err e) p = p

not_err : {E : Type 0} (P : Type 0) (r : Result Bool E) → result_unwrap_or r true ≡ false → OnErr r P
not_err P (Ok x) h = tt
not_err P (Err e) h = cc

pub returns-then-unwrap_or-clause-orders : goal.returns-then-unwrap_or-clause-orders
returns-then-unwrap_or-clause-orders g c =
    let new = c.args.order.now in
    let xs = g.B.Book.orders c.args.book.now in
    if_used _ c.add-noted.result (sym c.unwrap_or.ensures ∙ c.if-unwrap_or.true)
    (c.remove.ensures.gone ∙ (ap (removed new.place) c.in_ok-add.ensures.ok ∙ removed_newest new xs c.requires))

pub returns-else-unwrap_or-clause-orders : goal.returns-else-unwrap_or-clause-orders
returns-else-unwrap_or-clause-orders g c = if_unused _ c.add-noted.result
    (sym c.unwrap_or.ensures ∙ c.if-unwrap_or.false) c.in_ok-add.ensures.ok

pub returns-then-unwrap_or-clause-err_orders : goal.returns-then-unwrap_or-clause-err_orders
returns-then-unwrap_or-clause-err_orders g c =
    let new = c.args.order.now in
    let xs = g.B.Book.orders c.args.book.now in
    on_err c.add-noted.result (c.remove.ensures.gone ∙ (ap (removed new.place) c.in_ok-add.ensures.ok
    ∙ removed_newest new xs c.requires))

pub returns-else-unwrap_or-clause-err_orders : goal.returns-else-unwrap_or-clause-err_orders
returns-else-unwrap_or-clause-err_orders g c = not_err _ c.add-noted.result
    (sym c.unwrap_or.ensures ∙ c.if-unwrap_or.false)
