-- a list walked from its first item on
use Rattle.std.proofs.Common.{◌≡◌, ◌+◌, ◌≤◌, ℕ, List, [], ◌∷◌, ◌++◌, take, length, Some, None, inl, inr, ap, ◌∙◌}
use Rattle.std.specs.Prelude.{slice_get}
use Rattle.std.proofs.lemmas.List.{take_more}
use Rattle.std.proofs.lemmas.Option.{slice_get_cases}
use Rattle.std.proofs.lemmas.Option.{slice_get_within}
use Rattle.std.proofs.lemmas.Option.{get_or_from_slice_get}
use Rattle.spread_rules.specs.declared.order.Order.{Order}

pub walked_more : (xs : List Order) (k : ℕ) (o : Order) → slice_get xs k ≡ Some o → take (k + 1) xs ≡ take k xs
    ++ o ∷ []
walked_more xs k o h = take_more xs k o (slice_get_within xs k o h)
    ∙ ap (λ (x : Order). take k xs ++ x ∷ []) (get_or_from_slice_get xs k o o h)

pub walked_all : (xs : List Order) (k : ℕ) → slice_get xs k ≡ None → length xs ≤ k
walked_all xs k h = elim ((slice_get_cases xs k).1)
    [ inl w ↦ let e : slice_get xs k ≡ Some w.0 = w.2 in cc | inr w ↦ w.0 ]
