-- What a line that is read can't be.
use Rattle.std.proofs.Common.{◌≡◌, ◌≢◌, ℕ, ℤ, pos, to_z, of_z, List, ◌∷◌, ◌++◌, codes, ap, sym, subst, refl, ◌∙◌, arith}
use Rattle.std.specs.Prelude.{FitsSigned, int_rem}
use Rattle.std.specs.Int.{w64}
use Rattle.std.specs.Fmt.{signed_decimal}
use Rattle.std.proofs.lemmas.Int.{ints}
use Rattle.std.proofs.lemmas.List.{append_cancel_left}
use Rattle.std.proofs.lemmas.Int.{to_z-of_z}
use Rattle.spread_rules_ids.specs.Cut.{Lacks}
use Rattle.spread_rules_rulebook.specs.Rulebook.{IsMonth, IsTick, IsName, IsReference}
use Rattle.spread_rules_rulebook.specs.RulebookText.{tick_line, month_line}
use Rattle.spread_rules_rulebook.specs.declared.rulebook.Month.{Month}
use Rattle.spread_rules_rulebook.proofs.rulebook_texts.FieldsReadOnce.{signed_is, price_fits}
use Rattle.spread_rules_rulebook.proofs.rulebook_texts.NamesHaveNoSpace.{Lacks-name}
use Rattle.spread_rules_ids.proofs.Cuts.{cut_once, not_lacking}

pub tick_fits : (t : ℤ) → IsTick t → FitsSigned w64 t
tick_fits t f = let low = f.low in let high = f.high in omega (arith, ints)

-- a number read behind a front is the only one
pub signed_behind : (front : List ℕ) (y z : ℤ) (text rest : List ℕ) → FitsSigned w64 y → FitsSigned w64 z → text ≡ front
    ++ rest → rest ≡ signed_decimal y → text ≡ front ++ signed_decimal z → y ≡ z
signed_behind front y z text rest fy fz is r e = signed_is y z rest fy fz r
    (append_cancel_left front rest (signed_decimal z) (sym is ∙ e))

pub tick_is : (y t : ℤ) (line digits : List ℕ) → FitsSigned w64 y → line ≡ codes "tick " ++ digits
    → digits ≡ signed_decimal y → IsTick t → line ≡ tick_line t → y ≡ t
tick_is y t line digits fy is r f e = signed_behind (codes "tick ") y t line digits fy (tick_fits t f) is r e

pub reference_is : (tick y z : ℤ) (text : List ℕ) → FitsSigned w64 y → text ≡ signed_decimal y → IsReference tick z
    → text ≡ signed_decimal z → y ≡ z
reference_is tick y z text fy is f e = signed_is y z text fy (price_fits z f.price.low f.price.high) is e

-- ---- a month line's fields

-- behind the front stand the name, a space and the reference
fields_are : (m : Month) (line fields : List ℕ) → line ≡ codes "month " ++ fields → line ≡ month_line m
    → fields ≡ m.name ++ 32 ∷ signed_decimal m.reference
fields_are m line fields is e = append_cancel_left (codes "month ") fields (m.name ++ 32 ∷ signed_decimal m.reference)
    (sym is ∙ e)

pub no_space : (tick : ℤ) (m : Month) (line fields : List ℕ) → line ≡ codes "month " ++ fields → Lacks 32 fields
    → IsMonth tick m → line ≢ month_line m
no_space tick m line fields is lacks f e = not_lacking 32 m.name (signed_decimal m.reference)
    (subst (Lacks 32) (fields_are m line fields is e) lacks)

pub cut_is : (tick : ℤ) (m : Month) (line fields name digits : List ℕ) → line ≡ codes "month " ++ fields → fields ≡ name
    ++ 32 ∷ digits → Lacks 32 name → IsMonth tick m → line ≡ month_line m → (name ≡ m.name)
    × (digits ≡ signed_decimal m.reference)
cut_is tick m line fields name digits is cut lacks f e =
    cut_once 32 name m.name digits (signed_decimal m.reference) (sym cut ∙ fields_are m line fields is e) lacks
    (Lacks-name 32 refl m.name f.name.letters)

pub no_name : (tick : ℤ) (m : Month) (line fields name digits : List ℕ) → line ≡ codes "month " ++ fields
    → fields ≡ name ++ 32 ∷ digits → Lacks 32 name → (IsName name → ⊥) → IsMonth tick m → line ≢ month_line m
no_name tick m line fields name digits is cut lacks none f e =
    let same = (cut_is tick m line fields name digits is cut lacks f e).0 in
    none (subst IsName (sym same) f.name)

pub no_reference : (tick : ℤ) (m : Month) (line fields name digits : List ℕ) → line ≡ codes "month " ++ fields
    → fields ≡ name ++ 32 ∷ digits → Lacks 32 name → ((z : ℤ) → IsReference tick z → digits ≢ signed_decimal z)
    → IsMonth tick m → line ≢ month_line m
no_reference tick m line fields name digits is cut lacks none f e =
    none m.reference f.reference (cut_is tick m line fields name digits is cut lacks f e).1

-- the test of the remainder, as the code's signed numbers have it
pub no_rest : (y z t : ℤ) → FitsSigned w64 y → FitsSigned w64 t → y ≡ z → int_rem z t ≡ pos 0
    → of_z w64 (int_rem (to_z w64 (of_z w64 y)) (to_z w64 (of_z w64 t))) ≡ 0
no_rest y z t fits small same e = ap (of_z w64) (ap (λ (x : ℤ). int_rem x (to_z w64 (of_z w64 t)))
    (to_z-of_z w64 y fits ∙ same) ∙ ap (int_rem z) (to_z-of_z w64 t small) ∙ e)
