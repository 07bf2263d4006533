-- Which orders may rest, and what still can be traded once one has left.
use Rattle.std.proofs.Common.{ℕ, ◌==◌, ◌<◌, not, List, Contains}
use Rattle.std.proofs.lemmas.List.Elements.{All-contains, All-filter}
use Rattle.spread_rules.specs.declared.order.Order.{Order}
use Rattle.spread_rules.specs.declared.event.Ticket.{Ticket}
use Rattle.spread_rules.specs.code.Candidates.{HasOrderPrice}
use Rattle.spread_rules.specs.Clearing.{removed}
use Rattle.spread_rules.specs.code.Meaning.{moved_to}
use Rattle.spread_rules.proofs.clearings.TurnsEnd.{from_filter}
use Rattle.spread_rules_rulebook.specs.Prices.{IsOrderPrice}
use Rattle.spread_books_search.specs.Listed.{IsNearFirst, IsInMonths}
use Rattle.spread_match_trading.specs.Tradable.{IsTradable}

-- an order that may rest
pub record MayRest (months : ℕ) (n : Order) : Type 0 where
  pub small : HasOrderPrice n
  pub listed : IsNearFirst n
  pub within : IsInMonths months n.instrument

pub removed_tradable : (months place : ℕ) (xs : List Order) → IsTradable months xs
    → IsTradable months (removed place xs)
removed_tradable months place xs t =
    let p = λ (o : Order). not (o.place == place) in
    record {
      small = All-filter p HasOrderPrice xs t.small;
      listed = All-filter p IsNearFirst xs t.listed;
      within = All-filter p (λ (o : Order). IsInMonths months o.instrument) xs t.within;
      places = λ a b ca cb e. t.places a b (from_filter p xs a ca) (from_filter p xs b cb) e;
      left = All-filter p (λ (o : Order). 0 < o.leaves) xs t.left;
    }

pub moved_rests : (months place : ℕ) (xs : List Order) (t : Ticket) (r : Order) → IsTradable months xs → Contains xs r
    → IsOrderPrice t.price → MayRest months (moved_to place t r)
moved_rests months place xs t r s stands k = record {
  small = record { low = k.low; high = k.high };
  listed = let w = All-contains IsNearFirst xs r s.listed stands in record { near_before_far = w.near_before_far };
  within = All-contains (λ (o : Order). IsInMonths months o.instrument) xs r s.within stands;
}
