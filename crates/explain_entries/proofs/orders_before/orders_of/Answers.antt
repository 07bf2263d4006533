use Rattle.std.proofs.Common.{List, [], ◌∷◌, ◌++◌, sym, ap, ◌∙◌, arith}
use Rattle.std.proofs.lemmas.List.{take_all}
use Rattle.spread_rules.specs.declared.order.Order.{Order}
use Rattle.explain_entries.proofs.Walks.{walked_all, walked_more}
use Rattle.explain_entries.proofs.orders_before.orders_of.Goals.{else-loop-k-test, then-loop-k-test+in_default}
use Rattle.explain_entries.proofs.orders_before.orders_of.Goals as goal

pub loop-k-preserved : goal.loop-k-preserved
loop-k-preserved g c =
    let xs = g.B.Book.orders c.args.book.now in
    c.in_ok-push.ensures.items
    ∙ ap (λ (ys : List Order). ys ++ c.in-Some.order ∷ []) c.loop-k.invariant
    ∙ sym (walked_more xs c.loop-k.k c.in-Some.order (sym c.walk.ensures ∙ c.in-Some.is))

pub returns : goal.returns
returns g c =
    let xs = g.B.Book.orders c.args.book.now in
    let count = c.len-count.ensures in
    elim c.loop-k-test.branch [
      | else-loop-k-test w ↦ c.loop-k.invariant ∙ take_all c.loop-k.k xs (let h = w.loop-k-test.false in omega arith)
      | then-loop-k-test+in_default w ↦ c.loop-k.invariant
          ∙ take_all c.loop-k.k xs (walked_all xs c.loop-k.k (sym w.walk.ensures ∙ w.in_default.is))
    ]
