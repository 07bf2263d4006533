-- Which CompIDs are spelled, as they are spelled one after another.
use Rattle.std.proofs.Common.{◌≡◌, ℕ, ◌+◌, ◌<◌, List, length, get_or, sym, ap, ◌∙◌, inl, inr, arith, Option, Some, None}
use Rattle.std.proofs.Math.ListN.{set}
use Rattle.std.proofs.lemmas.Bool.{cases_eq}
use Rattle.std.proofs.lemmas.List.{get_or_default, get_or-set_same, get_or-set_other}
use Rattle.fix_wire.specs.declared.parties.SpelledParties.{SpelledParties}
use Rattle.fix_wire.specs.Layout.{SpellsParties}
use Rattle.spread_report_outbound.specs.declared.session.CompIds.{CompIds}

-- those of one session
abbrev pub IsSpelled : List ℕ → List (Option CompIds) → List SpelledParties → ℕ → Type 0
IsSpelled stamp os ps t = (ids : CompIds) → get_or os t None ≡ Some ids → (p : SpelledParties)
    → SpellsParties (get_or ps t p) ids.host ids.client stamp

-- one session more
pub spelled_more : (stamp : List ℕ) (os : List (Option CompIds)) (ps : List SpelledParties) (i : ℕ)
    (new : SpelledParties) (r : Option CompIds) →
    i < length os → i < length ps → r ≡ get_or os i r → ((ids : CompIds) → r ≡ Some ids
    → SpellsParties new ids.host ids.client stamp) →
    ((t : ℕ) → t < i → IsSpelled stamp os ps t) → (t : ℕ) → t < i + 1 → IsSpelled stamp os (set ps i new) t
spelled_more stamp os ps i new r in_os in_ps is_r spells done t below ids there p =
    let line : get_or os i None ≡ r = get_or_default os i None r in_os ∙ sym is_r in
    elim (cases_eq t i) [
      | inl e ↦
          let ids_are : r ≡ Some ids = sym line ∙ (ap (λ (k : ℕ). get_or os k None) (sym e) ∙ there) in
          rw (e, get_or-set_same ps i new p in_ps) (spells ids ids_are)
      | inr apart ↦ rw (get_or-set_other ps i t new p apart) (done t (omega (arith, below, apart)) ids there p)
    ]
