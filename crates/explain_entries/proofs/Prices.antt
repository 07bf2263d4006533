-- the orders with which an entry trades have prices of orders
use Rattle.std.proofs.Common.{◌==◌, ℕ, not, List, All, take, length, Option, Some, None, subst, arith}
use Rattle.std.proofs.lemmas.List.Elements.{All-filter, All-weaker}
use Rattle.std.proofs.lemmas.List.{take_all}
use Rattle.spread_rules.specs.declared.order.Order.{Order}
use Rattle.spread_rules.specs.declared.event.Entry.{Entry}
use Rattle.spread_rules.specs.code.Candidates.{HasOrderPrice}
use Rattle.spread_rules.specs.Journal.{FitsEntry}
use Rattle.spread_rules.specs.code.Meaning.{meaning_of_journal}
use Rattle.spread_rules.specs.Ranges.{AreOrdersInRange, IsOrderInRange}
use Rattle.spread_rules_rulebook.specs.Rulebook.{Rules, IsRules}
use Rattle.explain_entries.specs.EntryExplained.{others_of, standing_at}

others_priced : (named : Option Order) (xs : List Order) → All HasOrderPrice xs → All HasOrderPrice (others_of named xs)
others_priced None xs h = h
others_priced (Some r) xs h = All-filter (λ (o : Order). not (o.place == r.place)) HasOrderPrice xs h

-- by the law on the ranges of what rests
pub trades_priced : (rules : Rules) (before : List Entry) (named : Option Order)
    → ((rules : Rules) (journal : List Entry) → IsRules rules → All FitsEntry journal → (n : ℕ)
    → AreOrdersInRange rules (meaning_of_journal rules (take n journal)).orders) → IsRules rules → All FitsEntry before
    → All HasOrderPrice (others_of named (standing_at rules before))
trades_priced rules before named law lawful fits =
    let ranges = subst (λ (es : List Entry). AreOrdersInRange rules (meaning_of_journal rules es).orders)
    (take_all (length before) before (omega arith)) (law rules before lawful fits (length before)) in
    others_priced named (standing_at rules before) (All-weaker (IsOrderInRange rules) HasOrderPrice (λ o h. h.price)
    (standing_at rules before) ranges)
