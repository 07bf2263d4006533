-- The months' lines, one after another.
use Rattle.std.proofs.Common.{◌≡◌, ℕ, zero, suc, ◌+◌, ◌<◌, ◌≤◌, List, [], ◌∷◌, ◌++◌, Option, length, take, get_or, refl, sym, ap, subst, ◌∙◌, arith}
use Rattle.std.proofs.lemmas.List.{append_assoc, append-nil}
use Rattle.spread_rules_ends.specs.Ends.{AppendsPrefix}
use Rattle.spread_rules.specs.declared.fill.Fill.{Fill}
use Rattle.text_fills.specs.declared.totals.MonthTotals.{MonthTotals}
use Rattle.text_fills.specs.Totals.{AreTotals}
use Rattle.text_fills.specs.code.Sums.{empty_month}
use Rattle.text_messages.specs.code.Blocks.{IsPut}
use Rattle.text_messages.proofs.BlocksInTurn.{put_after, put_fails}
use Rattle.text_day.specs.Months.{month_line}
use Rattle.text_day.specs.code.Months.{month_lines_from}
use Rattle.text_day.specs.code.LineParts.{totals_line, totals_lines_from}

-- one more month's line
one_more : (names : List (List ℕ)) (k i : ℕ) (totals : List MonthTotals) → i < length names
    → totals_lines_from k (take (i + 1) names) totals ≡ totals_lines_from k (take i names) totals
    ++ totals_line (get_or names i []) (get_or totals (k + i) empty_month)
one_more [] k i totals h = absurd (omega arith)
one_more (name ∷ names) k zero totals h =
    let e : k ≡ k + 0 = omega arith in
    append-nil (totals_line name (get_or totals k empty_month))
    ∙ ap (λ (m : ℕ). totals_line name (get_or totals m empty_month)) e
one_more (name ∷ names) k (suc i) totals h =
    let e : suc i + 1 ≡ suc (i + 1) = omega arith in
    let f : k + 1 + i ≡ k + suc i = omega arith in
    let first = totals_line name (get_or totals k empty_month) in
    ap (λ (n : ℕ). totals_lines_from k (take n (name ∷ names)) totals) e
    ∙ (ap (λ (t : List ℕ). first ++ t) (one_more names (k + 1) i totals (omega arith))
    ∙ (sym (append_assoc first (totals_lines_from (k + 1) (take i names) totals)
    (totals_line (get_or names i []) (get_or totals (k + 1 + i) empty_month)))
    ∙ ap (λ (m : ℕ). totals_lines_from k (take (suc i) (name ∷ names)) totals
    ++ totals_line (get_or names i []) (get_or totals m empty_month)) f))

-- within a list it does not matter what stands behind it
pub any_default : (ts : List MonthTotals) (m : ℕ) (d e : MonthTotals) → m < length ts → get_or ts m d ≡ get_or ts m e
any_default [] m d e lt = absurd (omega arith)
any_default (t ∷ ts) zero d e lt = refl
any_default (t ∷ ts) (suc m) d e lt = any_default ts m d e (omega (arith, lt))

-- the line of month i stands behind those of the months before
pub line_next : (bytes name : List ℕ) (names : List (List ℕ)) (i : ℕ) (t : MonthTotals) (totals : List MonthTotals)
    → bytes ≡ totals_line name t → name ≡ get_or names i [] → t ≡ get_or totals i empty_month
    → i < length names → totals_lines_from 0 (take (i + 1) names) totals ≡ totals_lines_from 0 (take i names) totals
    ++ bytes
line_next bytes name names i t totals text named sums lt =
    let zero_more : 0 + i ≡ i = omega arith in
    one_more names 0 i totals lt
    ∙ ap (λ (x : List ℕ). totals_lines_from 0 (take i names) totals ++ x)
    (ap (λ (m : ℕ). totals_line (get_or names i []) (get_or totals m empty_month)) zero_more
    ∙ sym (text ∙ (ap (λ (n : List ℕ). totals_line n t) named
    ∙ ap (λ (u : MonthTotals). totals_line (get_or names i []) u) sums)))

pub months_step : (start out new bytes : List ℕ) (names : List (List ℕ)) (i : ℕ) (totals : List MonthTotals)
    → out ≡ start ++ totals_lines_from 0 (take i names) totals → new ≡ out ++ bytes
    → totals_lines_from 0 (take (i + 1) names) totals ≡ totals_lines_from 0 (take i names) totals ++ bytes → new ≡ start
    ++ totals_lines_from 0 (take (i + 1) names) totals
months_step start out new bytes names i totals was is next =
    is
    ∙ (ap (λ (o : List ℕ). o ++ bytes) was
    ∙ (append_assoc start (totals_lines_from 0 (take i names) totals) bytes
    ∙ ap (λ (x : List ℕ). start ++ x) (sym next)))

-- the lines of the first months stand before those of all others
lines_rest : (names : List (List ℕ)) (k n : ℕ) (totals : List MonthTotals) → (rest : List ℕ)
    × (totals_lines_from k names totals ≡ totals_lines_from k (take n names) totals ++ rest)
lines_rest names k zero totals = (totals_lines_from k names totals, refl)
lines_rest [] k (suc n) totals = ([], refl)
lines_rest (name ∷ names) k (suc n) totals =
    let later = lines_rest names (k + 1) n totals in
    let first = totals_line name (get_or totals k empty_month) in (
      later.0,
      ap (λ (t : List ℕ). first ++ t) later.1 ∙ sym (append_assoc first
          (totals_lines_from (k + 1) (take n names) totals) later.0),
    )

module _ (names : List (List ℕ)) (i : ℕ) (totals : List MonthTotals) (bytes : List ℕ) (a b c : Option (List ℕ))
    (old mid new : List ℕ)
    (next : totals_lines_from 0 (take (i + 1) names) totals ≡ totals_lines_from 0 (take i names) totals ++ bytes)
    (before : IsPut a b mid (old ++ totals_lines_from 0 (take i names) totals)) where
  -- the line was put behind those before it
  pub month_put : IsPut b c new (mid ++ bytes) → IsPut a c new (old ++ totals_lines_from 0 (take (i + 1) names) totals)
  month_put put = subst (λ (t : List ℕ). IsPut a c new (old ++ t)) (sym next)
      (put_after a b c old mid new (totals_lines_from 0 (take i names) totals) bytes before put)

  -- it could not be put: a front of all lines is out
  pub month_fails : AppendsPrefix b c (mid ++ bytes) → AppendsPrefix a c (old ++ totals_lines_from 0 names totals)
  month_fails front =
      let rest = lines_rest names 0 (i + 1) totals in
      put_fails a b c old mid (totals_lines_from 0 (take i names) totals) bytes rest.0
      (totals_lines_from 0 names totals) before front
      (rest.1 ∙ (ap (λ (t : List ℕ). t ++ rest.0) next ∙ append_assoc (totals_lines_from 0 (take i names) totals) bytes
      rest.0))

-- by the sums of fills they are the lines of these fills
pub lines_of_fills : (names : List (List ℕ)) (k : ℕ) (fills : List Fill) (totals : List MonthTotals)
    → AreTotals fills totals → k + length names ≤ 24
    → totals_lines_from k names totals ≡ month_lines_from k names fills
lines_of_fills [] k fills totals are few = refl
lines_of_fills (name ∷ names) k fills totals are few =
    ap (λ (t : MonthTotals). totals_line name t ++ totals_lines_from (k + 1) names totals)
    (are k empty_month (omega (arith, few)))
    ∙ ap (λ (t : List ℕ). month_line name k fills ++ t)
    (lines_of_fills names (k + 1) fills totals are (omega (arith, few)))
