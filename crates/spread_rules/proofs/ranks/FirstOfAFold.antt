-- a fold that keeps the first by an order, of those that some of the items give
use Rattle.std.proofs.Common.{◌≡◌, fold, List, [], ◌∷◌, ◌++◌, inl, inr, refl, subst, sym, ap, Contains, Option, Some, None, Bool, true, false, cond, append_assoc, append-nil}
use Rattle.std.specs.Cmp.{IsStrictWeakOrder}
use Rattle.std.proofs.lemmas.List.Elements.{Contains-append_left, Contains-push, Contains-push_cases}
use Rattle.spread_rules.specs.code.Candidates.{better_by}
use Rattle.spread_rules_rulebook.proofs.lists.Membership.{not_in_nil}

module _ {P O : Type 0} (before : O → O → Bool) (order : IsStrictWeakOrder before) (f : P → Option O) where
  -- best is the first of what those who were seen give
  abbrev pub IsFirst : List P → Option O → Type 0
  IsFirst seen None = (p : P) → Contains seen p → f p ≡ None
  IsFirst seen (Some o) = ((p : P) × Contains seen p × (f p ≡ Some o))
      × ((p : P) (q : O) → Contains seen p → f p ≡ Some q → before q o ≡ false)

  not_before_itself : (o : O) (b : Bool) → before o o ≡ b → before o o ≡ false
  not_before_itself o true e = order.one_way o o e
  not_before_itself o false e = e

  -- what p gives is q, and p was the last one
  itself : (p w : P) (q r : O) → f p ≡ Some q → p ≡ w → f w ≡ Some r → q ≡ r
  itself p w q r e d g = let h : f p ≡ f w = ap f d in cc

  never : (p w : P) (r : O) → f p ≡ None → p ≡ w → f w ≡ Some r → ⊥
  never p w r e d g = let h : f p ≡ f w = ap f d in cc

  kept : (seen : List P) (p : P) (o q : O) (b : Bool) → before q o ≡ b → f p ≡ Some q → IsFirst seen (Some o)
      → IsFirst (seen ++ p ∷ []) (cond b (Some q) (Some o))
  kept seen p o q true b e h = (
    (p, Contains-push seen p, e),
    λ w r c g. elim (Contains-push_cases seen p w c) [
      | inl d ↦ order.chain r o q (h.1 w r d g) (order.one_way q o b)
      | inr d ↦ subst (λ (x : O). before x q ≡ false) (itself p w q r e d g) (not_before_itself q (before q q) refl)
    ],
  )
  kept seen p o q false b e h = (
    (h.0.0, Contains-append_left seen (p ∷ []) h.0.0 h.0.1, h.0.2),
    λ w r c g. elim (Contains-push_cases seen p w c) [
      | inl d ↦ h.1 w r d g
      | inr d ↦ subst (λ (x : O). before x o ≡ false) (itself p w q r e d g) b
    ],
  )

  step_first : (seen : List P) (p : P) (best r : Option O) → f p ≡ r → IsFirst seen best
      → IsFirst (seen ++ p ∷ []) (better_by before best r)
  step_first seen p None None e h = λ w c. elim (Contains-push_cases seen p w c)
      [ inl d ↦ h w d | inr d ↦ subst (λ (v : P). f v ≡ None) d e ]
  step_first seen p (Some o) None e h = (
    (h.0.0, Contains-append_left seen (p ∷ []) h.0.0 h.0.1, h.0.2),
    λ w r c g. elim (Contains-push_cases seen p w c) [ inl d ↦ h.1 w r d g | inr d ↦ absurd (never p w r e d g) ],
  )
  step_first seen p None (Some q) e h = (
    (p, Contains-push seen p, e),
    λ w r c g. elim (Contains-push_cases seen p w c) [
      | inl d ↦ absurd (never w w r (h w d) refl g)
      | inr d ↦ subst (λ (x : O). before x q ≡ false) (itself p w q r e d g) (not_before_itself q (before q q) refl)
    ],
  )
  step_first seen p (Some o) (Some q) e h = kept seen p o q (before q o) refl e h

  from_seen : (seen ps : List P) (best : Option O) → IsFirst seen best
      → IsFirst (seen ++ ps) (fold (λ b p. better_by before b (f p)) best ps)
  from_seen seen [] best h = subst (λ (xs : List P). IsFirst xs best) (sym (append-nil seen)) h
  from_seen seen (p ∷ ps) best h =
      subst (λ (xs : List P). IsFirst xs (fold (λ b p. better_by before b (f p)) (better_by before best (f p)) ps))
      (append_assoc seen (p ∷ []) ps)
      (from_seen (seen ++ p ∷ []) ps (better_by before best (f p)) (step_first seen p best (f p) refl h))

  -- the fold gives the first
  pub fold_first : (ps : List P) → IsFirst ps (fold (λ b p. better_by before b (f p)) None ps)
  fold_first ps = from_seen [] ps None (λ p c. absurd (not_in_nil p c))
