-- orders that are changed one after another
use Rattle.std.proofs.Common.{◌≡◌, ◌<◌, ℕ, List, ◌++◌, ◌+◌, take, drop, map, set, get_or, length, ap, ◌∙◌}
use Rattle.spread_rules.specs.declared.order.Order.{Order}
use Rattle.spread_rules_ids.proofs.MappedInPlace.{map_next, map_rest}

module _ (f : Order → Order) (was now : List Order) (i : ℕ) (d : Order) (lt : i < length was)
    (so_far : now ≡ map f (take i was) ++ drop i was) where
  pub still : get_or now i d ≡ get_or was i d
  still = ap (λ (xs : List Order). get_or xs i d) so_far ∙ map_rest f was i d lt

  pub next : (o : Order) → o ≡ f (get_or now i d) → set now i o ≡ map f (take (i + 1) was) ++ drop (i + 1) was
  next o e =
      ap (λ (p : Order). set now i p) (e ∙ ap f still)
      ∙ ap (λ (xs : List Order). set xs i (f (get_or was i d))) so_far
      ∙ map_next f was i d lt
