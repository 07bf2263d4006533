-- what costs the least among the others, with the newest order beside them
use Rattle.std.proofs.Common.{◌≡◌, ℕ, List, ◌++◌, Option, Some, None, refl, subst, sym, ap, ◌∙◌}
use Rattle.std.proofs.lemmas.List.{append-nil}
use Rattle.std.specs.Option.{IsSomeAnd, option_to_list}
use Rattle.spread_rules.specs.declared.order.Side.{Side}
use Rattle.spread_rules.specs.declared.order.Order.{Order}
use Rattle.spread_rules.specs.Candidates.{Pairs}
use Rattle.spread_books_plain.specs.Pairs.{IsCheapest}
use Rattle.spread_books_plain.specs.declared.pair.PairCost.{PairCost}
use Rattle.spread_books_search.specs.code.Cheapest.{IsInColumn, KeepsCost}
use Rattle.spread_books_quotes.specs.code.QuoteTable.{ChangesOneQueue}
use Rattle.spread_books_quotes.proofs.quotes.Columns.{kept_row}
use Rattle.spread_books_quotes.proofs.quotes.Costs.{others_when_it_comes}
use Rattle.spread_books_quotes.proofs.quotes.Tables.{column_kept}

-- with the newest order the others' fronts cost what they did, but for one queue
pub with_newest : (xs zs : List Order) (newest : Option Order) (o : Order) → newest ≡ Some o → xs
    ++ option_to_list newest ≡ zs → ChangesOneQueue xs zs o.instrument o.side
with_newest xs zs newest o is whole j t other =
    subst (λ (ys : List Order). KeepsCost xs ys j t) (ap (λ (r : Option Order). xs ++ option_to_list r) (sym is)
    ∙ whole) (others_when_it_comes xs o j t other)

-- what costs the least among the others does so with the newest, where that one is in none of the queues
pub kept_by_newest : (on : Pairs) (xs zs : List Order) (newest : Option Order) (side : Side) (month : ℕ)
    (least : Option PairCost) → xs ++ option_to_list newest ≡ zs
    → ((other : ℕ) → IsSomeAnd newest (λ o. IsInColumn o.instrument o.side side month other) → ⊥)
    → IsCheapest on xs side month 24 least → IsCheapest on zs side month 24 least
kept_by_newest on xs zs None side month least whole apart c =
    subst (λ (ys : List Order). IsCheapest on ys side month 24 least) (sym (append-nil xs) ∙ whole) c
kept_by_newest on xs zs (Some o) side month least whole apart c =
    kept_row on xs zs side month 24 least (λ k lt. column_kept xs zs o.instrument o.side side month k
    (with_newest xs zs (Some o) o refl whole) (apart k)) c
