-- one more row of pairs
use Rattle.std.proofs.Common.{◌≡◌, ℕ, ◌+◌, ◌<◌, length, get_or, fold, map, take, List, [], ◌∷◌, ◌++◌, Option, None, ap, ◌∙◌, sym}
use Rattle.std.specs.List.{flat_map}
use Rattle.std.proofs.lemmas.List.{flat_map_more, take_more}
use Rattle.std.proofs.lemmas.List.Sums.{fold-append}
use Rattle.spread_rules.specs.declared.order.Order.{Order}
use Rattle.spread_rules.specs.declared.candidate.Candidate.{Candidate}
use Rattle.spread_rules.specs.declared.candidate.Counterparty.TheVariants.{Direct, Implied}
use Rattle.spread_rules.specs.Candidates.{Pairs}
use Rattle.explain_turns.specs.code.Search.{next_step, next_candidate_of}

module _ (on : Pairs) where
  pub rows_more : (n : Order) (bound : Option Candidate) (xs : List Order) (i : ℕ) (a : Order) → i < length xs
      → a ≡ get_or xs i a → next_candidate_of on n bound
      (map Direct xs ++ flat_map (λ b. map (Implied b) xs) (take (i + 1) xs)) ≡ fold (next_step on n bound)
      (next_candidate_of on n bound (map Direct xs ++ flat_map (λ b. map (Implied b) xs) (take i xs)))
      (map (Implied a) xs)
  rows_more n bound xs i a lt e =
      let t : take (i + 1) xs ≡ take i xs ++ a ∷ [] = take_more xs i a lt
      ∙ ap (λ (b : Order). take i xs ++ b ∷ []) (sym e) in
      ap (λ (ys : List Order). next_candidate_of on n bound (map Direct xs ++ flat_map (λ b. map (Implied b) xs) ys)) t
      ∙ ap (next_candidate_of on n bound) (sym (flat_map_more (λ b. map (Implied b) xs) (map Direct xs) (take i xs) a))
      ∙ fold-append (next_step on n bound) None (map Direct xs ++ flat_map (λ b. map (Implied b) xs) (take i xs))
      (map (Implied a) xs)
