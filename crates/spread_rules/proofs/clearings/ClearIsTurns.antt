-- clearing is one turn after another
use Rattle.std.proofs.Common.{◌≡◌, ℕ, zero, suc, ◌==◌, ℤ, Bool, true, false, List, length, Option, Some, None, refl, ap, ◌∙◌}
use Rattle.std.specs.Prelude.{if◌then◌else◌}
use Rattle.std.specs.Fn.{iterate}
use Rattle.std.specs.Option.{option_map_or}
use Rattle.spread_rules.specs.declared.order.Order.{Order}
use Rattle.spread_rules.specs.declared.candidate.Candidate.{Candidate}
use Rattle.spread_rules.specs.Candidates.{Pairs}
use Rattle.spread_rules.specs.code.Candidates.{counterparties, least_candidate}
use Rattle.spread_rules.specs.Clearing.{Trading, after_trade, clear, match_once}
use Rattle.spread_rules.specs.code.Clearing.{after_match, begin, turn, turns}
use Rattle.spread_rules.proofs.ranks.BestIsLeast.{best_is}

module _ (on : Pairs) (references : List ℤ) where
  with_next : (s : Trading) (spent : Bool) (next : Option Candidate)
      → (if spent then s else option_map_or (after_trade references s) next s) ≡ after_match references s
      (if spent then None else next)
  with_next s true next = refl
  with_next s false None = refl
  with_next s false (Some o) = refl

  once_is : (s : Trading) → match_once on references s ≡ turn on references s
  once_is s =
      ap (λ (next : Option Candidate). if s.new.leaves == 0 then s else option_map_or (after_trade references s) next s)
      (best_is on s.new s.orders)
      ∙ with_next s (s.new.leaves == 0) (least_candidate on s.new (counterparties s.orders))

  again_and_again : (k : ℕ) (s : Trading) → iterate (match_once on references) k s ≡ turns on references k s
  again_and_again zero s = refl
  again_and_again (suc k) s = ap (iterate (match_once on references) k) (once_is s)
      ∙ again_and_again k (turn on references s)

  pub clear_is : (n : Order) (xs : List Order) → clear on references n xs ≡ turns on references (length xs) (begin n xs)
  clear_is n xs = again_and_again (length xs) (begin n xs)
