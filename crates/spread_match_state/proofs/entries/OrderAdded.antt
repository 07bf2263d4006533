-- a new order, whose id was not used, stands in the book and has a status
use Rattle.std.proofs.Common.{◌≡◌, Bool, false, cond, List, [], ◌∷◌, ◌++◌, ap, ◌∙◌}
use Rattle.spread_rules.specs.declared.codes.ord_status.TheConstants as ord_status
use Rattle.spread_rules.specs.declared.order.Order.{Order}
use Rattle.spread_rules.specs.declared.outcome.OrderStatus.{OrderStatus}
use Rattle.spread_match_orders.specs.code.Entering.{entered_status}

pub order_stands : (used : Bool) (book after xs : List Order) (n : Order) → used ≡ false
    → after ≡ cond used book (book ++ n ∷ []) → book ≡ xs → after ≡ xs ++ n ∷ []
order_stands used book after xs n unused e same =
    e ∙ (ap (λ (b : Bool). cond b book (book ++ n ∷ [])) unused ∙ ap (λ (ys : List Order). ys ++ n ∷ []) same)

pub status_stands : (used : Bool) (ss after was : List OrderStatus) (n : Order) → used ≡ false
    → after ≡ ss ++ record (entered_status n) { status = cond used ord_status.REJECTED ord_status.CANCELED } ∷ []
    → ss ≡ was → after ≡ was ++ entered_status n ∷ []
status_stands used ss after was n unused e same =
    e ∙ (ap (λ (b : Bool). ss
    ++ record (entered_status n) { status = cond b ord_status.REJECTED ord_status.CANCELED } ∷ []) unused
    ∙ ap (λ (ys : List OrderStatus). ys ++ entered_status n ∷ []) same)
